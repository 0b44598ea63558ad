-- What files are, by the ends of their names.
use Rattle.std.specs.Prelude.{ℕ, ◌||◌, Bool, true, false, List, codes, nat_eq, if◌then◌else◌}
use Rattle.std.specs.List.{ends_with}
use Rattle.distributions.specs.declared.form.Form.{Form}
use Rattle.distributions.specs.declared.form.Form.TheVariants.{Wheel, TarGz, Zip, Other}

-- what a file of this name is: a wheel (binary distribution format), or a source distribution, of which older ones are zip files
abbrev pub form_of : List ℕ → Form
form_of name =
    if ends_with nat_eq name (codes ".whl") then Wheel
    else if ends_with nat_eq name (codes ".tar.gz") then TarGz
    else if ends_with nat_eq name (codes ".zip") then Zip
    else Other

abbrev pub is_wheel : Form → Bool
is_wheel Wheel = true
is_wheel TarGz = false
is_wheel Zip = false
is_wheel Other = false

abbrev pub is_tar_gz : Form → Bool
is_tar_gz Wheel = false
is_tar_gz TarGz = true
is_tar_gz Zip = false
is_tar_gz Other = false

abbrev pub is_zip : Form → Bool
is_zip Wheel = false
is_zip TarGz = false
is_zip Zip = true
is_zip Other = false

-- a source distribution
abbrev pub is_sdist : Form → Bool
is_sdist form = is_tar_gz form || is_zip form
