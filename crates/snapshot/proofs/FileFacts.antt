-- Files that are gone through one after the other.
use Rattle.std.proofs.Common.{◌≡◌, Bool, true, cond, Ordering, Less, Equal, Greater, List, [], ◌∷◌, ◌++◌, Option, Some, None, find, fold, map, refl, sym, ap, ◌∙◌, append_assoc}
use Rattle.std.proofs.lemmas.List.{append-nil}
use Rattle.std.specs.Prelude.{filter}
use Rattle.std.specs.BTreeSet.{insert_key}
use Rattle.std.specs.Option.{option_or}
use Rattle.std.specs.Prelude.{◌&&◌}
use Rattle.std.specs.Ordering.{is_lt}
use Rattle.snapshot.specs.Tied.OrderLaws.{name_total}
use Rattle.lists.specs.Rising.{rises}
use Rattle.lists.proofs.SortedInserts.{Rises, rising}
use Rattle.snapshot.specs.Tied.Chosen.{no_files, sorted_with, with_form}
use Rattle.snapshot.specs.declared.chosen.Sorted.{Sorted}
use Rattle.distributions.specs.Forms.{form_of, is_tar_gz, is_wheel, is_zip}
use Rattle.snapshot.specs.Files.{name_cmp, sdist_of, wheels_of}
use Rattle.distributions.specs.declared.file.DistributionFile.{DistributionFile}
use Rattle.distributions.specs.declared.form.Form.{Form}
use Rattle.distributions.specs.declared.form.Form.TheVariants.{Wheel, TarGz, Zip, Other}

or-none : {X : Type 0} (o : Option X) → o ≡ option_or o None
or-none (Some x) = refl
or-none None = refl

or-some : {X : Type 0} (o : Option X) (x : X) (later : Option X) → option_or (option_or o (Some x)) later ≡ option_or o (Some x)
or-some (Some y) x later = refl
or-some None x later = refl

wheels_by : (o : Form) (s : Sorted) (f : DistributionFile) (fs rest : List DistributionFile) → ((t : Sorted) → (fold sorted_with t fs).wheels ≡ t.wheels ++ rest)
    → (fold sorted_with (with_form s f o) fs).wheels ≡ s.wheels ++ cond (is_wheel o) (f ∷ rest) rest
wheels_by Wheel s f fs rest all = all (with_form s f Wheel) ∙ append_assoc s.wheels (f ∷ []) rest
wheels_by TarGz s f fs rest all = all (with_form s f TarGz)
wheels_by Zip s f fs rest all = all (with_form s f Zip)
wheels_by Other s f fs rest all = all s

wheels_from : (fs : List DistributionFile) (s : Sorted) → (fold sorted_with s fs).wheels ≡ s.wheels ++ filter (λ f. is_wheel (form_of f.name)) fs
wheels_from [] s = sym (append-nil s.wheels)
wheels_from (f ∷ fs) s = wheels_by (form_of f.name) s f fs (filter (λ f. is_wheel (form_of f.name)) fs) (wheels_from fs)

tar_gz_by : (o : Form) (s : Sorted) (f : DistributionFile) (fs : List DistributionFile) (later : Option DistributionFile) → ((t : Sorted) → (fold sorted_with t fs).tar_gz ≡ option_or t.tar_gz later)
    → (fold sorted_with (with_form s f o) fs).tar_gz ≡ option_or s.tar_gz (cond (is_tar_gz o) (Some f) later)
tar_gz_by Wheel s f fs later all = all (with_form s f Wheel)
tar_gz_by TarGz s f fs later all = all (with_form s f TarGz) ∙ or-some s.tar_gz f later
tar_gz_by Zip s f fs later all = all (with_form s f Zip)
tar_gz_by Other s f fs later all = all s

tar_gz_from : (fs : List DistributionFile) (s : Sorted) → (fold sorted_with s fs).tar_gz ≡ option_or s.tar_gz (find (λ f. is_tar_gz (form_of f.name)) fs)
tar_gz_from [] s = or-none s.tar_gz
tar_gz_from (f ∷ fs) s = tar_gz_by (form_of f.name) s f fs (find (λ f. is_tar_gz (form_of f.name)) fs) (tar_gz_from fs)

zip_by : (o : Form) (s : Sorted) (f : DistributionFile) (fs : List DistributionFile) (later : Option DistributionFile) → ((t : Sorted) → (fold sorted_with t fs).zip ≡ option_or t.zip later)
    → (fold sorted_with (with_form s f o) fs).zip ≡ option_or s.zip (cond (is_zip o) (Some f) later)
zip_by Wheel s f fs later all = all (with_form s f Wheel)
zip_by TarGz s f fs later all = all (with_form s f TarGz)
zip_by Zip s f fs later all = all (with_form s f Zip) ∙ or-some s.zip f later
zip_by Other s f fs later all = all s

zip_from : (fs : List DistributionFile) (s : Sorted) → (fold sorted_with s fs).zip ≡ option_or s.zip (find (λ f. is_zip (form_of f.name)) fs)
zip_from [] s = or-none s.zip
zip_from (f ∷ fs) s = zip_by (form_of f.name) s f fs (find (λ f. is_zip (form_of f.name)) fs) (zip_from fs)

-- the wheels of files that were gone through
pub wheels_gathered : (fs : List DistributionFile) (s : Sorted) → s ≡ fold sorted_with no_files fs → fold (insert_key name_cmp) [] s.wheels ≡ wheels_of fs
wheels_gathered fs s is = ap (fold (insert_key name_cmp) []) (ap (λ (t : Sorted). t.wheels) is ∙ wheels_from fs no_files)

-- their source distribution
pub sdist_gathered : (fs : List DistributionFile) (s : Sorted) → s ≡ fold sorted_with no_files fs → option_or s.tar_gz s.zip ≡ sdist_of fs
sdist_gathered fs s is = ap (λ (t : Sorted). option_or t.tar_gz t.zip) is ∙ ap (λ (o : Option DistributionFile). option_or o (fold sorted_with no_files fs).zip) (tar_gz_from fs no_files)
    ∙ ap (option_or (find (λ f. is_tar_gz (form_of f.name)) fs)) (zip_from fs no_files)

-- ---- wheels that are listed by name

lower_and : (o : Ordering) (b : Bool) → (is_lt o && b) ≡ true → (o ≡ Less) × (b ≡ true)
lower_and Less b e = (refl, e)
lower_and Equal b e = absurd cc
lower_and Greater b e = absurd cc

rises_of : (fs : List DistributionFile) → rises (map (λ f. f.name) fs) ≡ true → Rises name_cmp fs
unfolding rises
rises_of [] e = tt
rises_of (f ∷ []) e = tt
rises_of (f ∷ g ∷ gs) e =
    let both = lower_and (name_cmp f g) (rises (map (λ h. h.name) (g ∷ gs))) e in
    (both.0, rises_of (g ∷ gs) both.1)

-- files whose names rise are those of the set by name
pub rising_names : (fs : List DistributionFile) → rises (map (λ f. f.name) fs) ≡ true → fs ≡ fold (insert_key name_cmp) [] fs
rising_names fs e = sym (rising name_total fs (rises_of fs e))
