-- What a version is (PEP 440, "Version scheme").
use Rattle.std.specs.Prelude.{◌≡◌, ℕ, ◌<◌, ◌^◌, ◌&&◌, ◌||◌, nat_lt, nat_le, not, Bool, true, List, [], ◌∷◌, ◌++◌, length, Option, Some, None, is_some, option_to_list}
use Rattle.std.specs.Char.{is_ascii_digit}
use Rattle.std.specs.List.{list_all, filter_map}
use Rattle.pep440.specs.declared.parts.Pre.{Pre}
use Rattle.pep440.specs.declared.parts.Pre.TheVariants.{Alpha, Beta, Candidate}
use Rattle.pep440.specs.declared.parts.LocalPart.{LocalPart}
use Rattle.pep440.specs.declared.parts.LocalPart.TheVariants.{Word, Number}

-- the parts of a version, over numbers of any size
pub record VersionParts : Type 0 where
  pub epoch : ℕ
  pub release : List ℕ
  pub pre : Option Pre
  pub post : Option ℕ
  pub dev : Option ℕ
  pub local : List LocalPart

-- the number of a pre-release part
abbrev pub pre_number : Pre → ℕ
pre_number (Alpha n) = n
pre_number (Beta n) = n
pre_number (Candidate n) = n

-- the number of a local part that is one
abbrev pub part_number : LocalPart → Option ℕ
part_number (Word w) = None
part_number (Number n) = Some n

-- the number of each part that has one
abbrev pub pre_numbers : Option Pre → List ℕ
pre_numbers None = []
pre_numbers (Some p) = pre_number p ∷ []

-- every number of a version
abbrev pub numbers : VersionParts → List ℕ
numbers v = v.epoch ∷ (v.release ++ (pre_numbers v.pre ++ (option_to_list v.post ++ (option_to_list v.dev ++ filter_map part_number v.local))))

-- every number is below 2 ^ 64 (reqlock's own rule)
abbrev pub fits : VersionParts → Bool
fits v = list_all (λ n. nat_lt n (2 ^ 64)) (numbers v)

-- a byte of a local word: a letter in lower case, or a digit (PEP 440, "Local version identifiers")
abbrev pub is_word_byte : ℕ → Bool
is_word_byte b = is_ascii_digit b || (nat_le 97 b && nat_le b 122)

-- a local word is letters in lower case and digits, and not digits alone, so that it isn't empty either
abbrev pub is_word : List ℕ → Bool
is_word text = list_all is_word_byte text && not (list_all is_ascii_digit text)

-- a local part is a number, or a word
abbrev pub is_part : LocalPart → Bool
is_part (Word w) = is_word w
is_part (Number n) = true

-- what holds of every `Version`
pub record IsVersion (v : VersionParts) : Type 0 where
  pub release : 0 < length v.release
  pub local : list_all is_part v.local ≡ true
  pub numbers : fits v ≡ true

-- a pre-release has a pre or a dev part (PEP 440, "Handling of pre-releases")
abbrev pub is_pre : VersionParts → Bool
is_pre v = is_some v.pre || is_some v.dev

-- a post-release has a post part (PEP 440, "Post-releases")
abbrev pub is_post : VersionParts → Bool
is_post v = is_some v.post
