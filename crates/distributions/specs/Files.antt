-- Distribution files that may stand in a lock.
use Rattle.std.specs.Prelude.{◌&&◌, Bool}
use Rattle.distributions.specs.declared.file.DistributionFile.{DistributionFile}
use Rattle.distributions.specs.Digests.{is_digest}
use Rattle.distributions.specs.Forms.{form_of, is_sdist, is_wheel}
use Rattle.distributions.specs.Sizes.{is_size}

-- a file whose size fits, with its digest (reqlock's own rule)
abbrev pub is_lawful : DistributionFile → Bool
is_lawful f = is_size f.size && is_digest f.sha256

-- a wheel
abbrev pub is_lawful_wheel : DistributionFile → Bool
is_lawful_wheel f = is_wheel (form_of f.name) && is_lawful f

-- a source distribution
abbrev pub is_lawful_sdist : DistributionFile → Bool
is_lawful_sdist f = is_sdist (form_of f.name) && is_lawful f
