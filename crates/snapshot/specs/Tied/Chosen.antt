-- The files of a release as they are gone through, one after the other.
-- Tied to `wheels_of` and `sdist_of` by the contract of the code's `choose`; need not be read.
use Rattle.std.specs.Prelude.{[], ◌∷◌, ◌++◌, Some, None}
use Rattle.std.specs.Option.{option_or}
use Rattle.snapshot.specs.declared.chosen.Sorted.{Sorted}
use Rattle.distributions.specs.declared.file.DistributionFile.{DistributionFile}
use Rattle.distributions.specs.declared.form.Form.{Form}
use Rattle.distributions.specs.declared.form.Form.TheVariants.{Wheel, TarGz, Zip, Other}
use Rattle.distributions.specs.Forms.{form_of}

abbrev pub no_files : Sorted
no_files = record { wheels = []; tar_gz = None; zip = None }

abbrev pub with_form : Sorted → DistributionFile → Form → Sorted
with_form s f Wheel = record { wheels = s.wheels ++ f ∷ []; tar_gz = s.tar_gz; zip = s.zip }
with_form s f TarGz = record { wheels = s.wheels; tar_gz = option_or s.tar_gz (Some f); zip = s.zip }
with_form s f Zip = record { wheels = s.wheels; tar_gz = s.tar_gz; zip = option_or s.zip (Some f) }
with_form s f Other = s

-- one more file
abbrev pub sorted_with : Sorted → DistributionFile → Sorted
sorted_with s f = with_form s f (form_of f.name)
