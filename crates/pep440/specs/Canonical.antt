-- The one text of a version (PEP 440, "Normalization").
use Rattle.std.specs.Prelude.{ℕ, ◌==◌, List, [], ◌∷◌, ◌++◌, Option, Some, None, if◌then◌else◌, codes}
use Rattle.std.specs.List.{flat_map}
use Rattle.std.specs.Fmt.{decimal}
use Rattle.pep440.specs.declared.parts.Pre.{Pre}
use Rattle.pep440.specs.declared.parts.Pre.TheVariants.{Alpha, Beta, Candidate}
use Rattle.pep440.specs.declared.parts.LocalPart.{LocalPart}
use Rattle.pep440.specs.declared.parts.LocalPart.TheVariants.{Word, Number}
use Rattle.pep440.specs.Version.{VersionParts}

-- the epoch is written where it isn't 0
abbrev pub epoch_text : ℕ → List ℕ
epoch_text n = if n == 0 then [] else decimal n ++ codes "!"

-- `N(.N)*`, trailing zeros too
abbrev pub release_text : List ℕ → List ℕ
release_text [] = []
release_text (n ∷ ns) = decimal n ++ flat_map (λ m. codes "." ++ decimal m) ns

abbrev pub pre_part_text : Pre → List ℕ
pre_part_text (Alpha n) = codes "a" ++ decimal n
pre_part_text (Beta n) = codes "b" ++ decimal n
pre_part_text (Candidate n) = codes "rc" ++ decimal n

abbrev pub pre_text : Option Pre → List ℕ
pre_text None = []
pre_text (Some p) = pre_part_text p

abbrev pub post_text : Option ℕ → List ℕ
post_text None = []
post_text (Some n) = codes ".post" ++ decimal n

abbrev pub dev_text : Option ℕ → List ℕ
dev_text None = []
dev_text (Some n) = codes ".dev" ++ decimal n

abbrev pub part_text : LocalPart → List ℕ
part_text (Word w) = w
part_text (Number n) = decimal n

-- `+`, and the parts with `.` between them
abbrev pub local_text : List LocalPart → List ℕ
local_text [] = []
local_text (p ∷ ps) = codes "+" ++ (part_text p ++ flat_map (λ q. codes "." ++ part_text q) ps)

-- `[N!]N(.N)*[{a|b|rc}N][.postN][.devN][+local]`
abbrev pub canonical : VersionParts → List ℕ
canonical v = epoch_text v.epoch ++ (release_text v.release ++ (pre_text v.pre ++ (post_text v.post ++ (dev_text v.dev ++ local_text v.local))))
