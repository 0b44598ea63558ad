-- Packages that are read one after the other.
use Rattle.std.proofs.Common.{◌≡◌, List, [], ◌∷◌, ◌++◌, Result, Ok, Err, fold, refl, sym, ap, ◌∙◌, append_assoc, ◌⊎◌, inl, inr}
use Rattle.std.proofs.lemmas.List.{append-nil}
use Rattle.serde_json.specs.Data.{Items}
use Rattle.snapshot.specs.declared.fault.Fault.{Fault}
use Rattle.snapshot.specs.declared.fault.Fault.TheVariants.{OutOfMemory}
use Rattle.snapshot.specs.declared.package.ReadPackage.{ReadPackage}
use Rattle.snapshot.specs.declared.package.ReadPackages.{ReadPackages}
use Rattle.snapshot.specs.Packages.{package_of, packages_in, together}
use Rattle.snapshot.specs.Shape.{◌>>=◌, each_from}
use Rattle.snapshot.proofs.ItemsOneByOne.{gather}

abbrev pub no_packages : ReadPackages
no_packages = record { packages = []; skipped = [] }

-- one package more
abbrev pub with_package : ReadPackages → ReadPackage → ReadPackages
with_package so_far p = record { packages = so_far.packages ++ p.kept ∷ []; skipped = so_far.skipped ++ p.skipped }

packages-behind : (front : ReadPackages) (ps : List ReadPackage) → (fold with_package front ps).packages ≡ front.packages ++ (together ps).packages
packages-behind front [] = sym (append-nil front.packages)
packages-behind front (p ∷ ps) = packages-behind (with_package front p) ps ∙ append_assoc front.packages (p.kept ∷ []) (together ps).packages

skipped-behind : (front : ReadPackages) (ps : List ReadPackage) → (fold with_package front ps).skipped ≡ front.skipped ++ (together ps).skipped
skipped-behind front [] = sym (append-nil front.skipped)
skipped-behind front (p ∷ ps) = skipped-behind (with_package front p) ps ∙ append_assoc front.skipped p.skipped (together ps).skipped

pub all-together : (ps : List ReadPackage) → fold with_package no_packages ps ≡ together ps
all-together ps = λ i. record { packages = packages-behind no_packages ps i; skipped = skipped-behind no_packages ps i }

-- putting what is read behind nothing is having it together
gather-together : (read : Result (List ReadPackage) Fault) → gather with_package no_packages read ≡ (read >>= λ ps. Ok (together ps))
gather-together (Ok ps) = ap Ok (all-together ps)
gather-together (Err e) = refl

pub all_read : (ds : Items) (found : ReadPackages) → gather with_package no_packages (each_from package_of 0 ds) ≡ Ok found → packages_in ds ≡ Ok found
unfolding packages_in
all_read ds found is = sym (gather-together (each_from package_of 0 ds)) ∙ is

pub all_refused : (ds : Items) (e : Fault) → (e ≡ OutOfMemory) ⊎ (gather with_package no_packages (each_from package_of 0 ds) ≡ Err e) → (e ≡ OutOfMemory) ⊎ (packages_in ds ≡ Err e)
unfolding packages_in
all_refused ds e (inl memory) = inl memory
all_refused ds e (inr is) = inr (sym (gather-together (each_from package_of 0 ds)) ∙ is)
