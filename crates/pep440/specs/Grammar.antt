-- Which texts are versions (PEP 440, "Appendix: Parsing version strings with regular expressions" and
-- "Normalization"), as a relation between a whole text and the parts that it spells.
use Rattle.std.specs.Prelude.{◌≡◌, ℕ, ◌+◌, ◌-◌, ◌*◌, ◌<◌, ◌==◌, ◌&&◌, ◌||◌, ◌⊎◌, ⊤, nat_le, Bool, true, false, List, [], ◌∷◌, ◌++◌, length, map, Option, Some, None, Result, Ok, Err, codes}
use Rattle.std.specs.Char.{is_ascii_alphanumeric, is_ascii_digit, to_ascii_lowercase}
use Rattle.std.specs.List.{list_all}
use Rattle.pep440.specs.declared.fault.Fault.{Fault}
use Rattle.pep440.specs.declared.fault.Fault.TheVariants.{BadVersion, NumberTooLarge, BadClause, ArbitraryEquality, OutOfMemory}
use Rattle.pep440.specs.declared.parts.Pre.{Pre}
use Rattle.pep440.specs.declared.parts.Pre.TheVariants.{Alpha, Beta, Candidate}
use Rattle.pep440.specs.declared.parts.LocalPart.{LocalPart}
use Rattle.pep440.specs.declared.parts.LocalPart.TheVariants.{Number, Word}
use Rattle.pep440.specs.Version.{VersionParts, fits}

-- the number that digits write, behind a number
abbrev pub value_from : ℕ → List ℕ → ℕ
value_from n [] = n
value_from n (b ∷ rest) = value_from (n * 10 + (b - 48)) rest

-- one or more ASCII digits, read by value (PEP 440, "Integer Normalization")
pub record IsNumeral (text : List ℕ) (n : ℕ) : Type 0 where
  pub some : 0 < length text
  pub digits : list_all is_ascii_digit text ≡ true
  pub value : value_from 0 text ≡ n

-- the text is this word, in letters of either case (PEP 440, "Case sensitivity")
abbrev pub Says : List ℕ → List ℕ → Type 0
Says text word = map to_ascii_lowercase text ≡ word

-- `.`, `-` or `_`
abbrev pub is_separator : ℕ → Bool
is_separator b = (b == 46) || ((b == 45) || (b == 95))

-- no separator, or one
abbrev pub IsSeparator : List ℕ → Type 0
IsSeparator [] = ⊤
IsSeparator (s ∷ []) = is_separator s ≡ true
IsSeparator (s ∷ t ∷ rest) = ⊥

-- `[v]` (PEP 440, "Preceding v character")
abbrev pub IsLead : List ℕ → Type 0
IsLead text = (text ≡ []) ⊎ Says text (codes "v")

-- `[digits !]`; a missing epoch is 0 (PEP 440, "Version epochs")
abbrev pub IsEpoch : List ℕ → ℕ → Type 0
IsEpoch text n = ((text ≡ []) × (n ≡ 0)) ⊎ ((digits : List ℕ) × (text ≡ digits ++ 33 ∷ []) × IsNumeral digits n)

-- numbers with `.` between them (PEP 440, "Final releases")
abbrev pub IsRelease : List ℕ → List ℕ → Type 0
IsRelease text [] = ⊥
IsRelease text (n ∷ []) = IsNumeral text n
IsRelease text (n ∷ m ∷ ns) = (first rest : List ℕ) × (text ≡ first ++ 46 ∷ rest) × IsNumeral first n × IsRelease rest (m ∷ ns)

-- `[sep] word [sep] [digits]`; missing digits are 0 (PEP 440, "Implicit pre-release number")
pub record IsLabelled (IsWord : List ℕ → Type 0) (text : List ℕ) (n : ℕ) : Type 0 where
  pub first : List ℕ
  pub word : List ℕ
  pub second : List ℕ
  pub digits : List ℕ
  pub whole : text ≡ first ++ (word ++ (second ++ digits))
  pub separates : IsSeparator first
  pub says : IsWord word
  pub separates_more : IsSeparator second
  pub are_digits : list_all is_ascii_digit digits ≡ true
  pub value : value_from 0 digits ≡ n

-- the spellings of the words (PEP 440, "Pre-release spelling" and "Post release spelling")
abbrev pub IsAlphaWord : List ℕ → Type 0
IsAlphaWord word = Says word (codes "a") ⊎ Says word (codes "alpha")

abbrev pub IsBetaWord : List ℕ → Type 0
IsBetaWord word = Says word (codes "b") ⊎ Says word (codes "beta")

abbrev pub IsCandidateWord : List ℕ → Type 0
IsCandidateWord word = (Says word (codes "c") ⊎ Says word (codes "rc")) ⊎ (Says word (codes "pre") ⊎ Says word (codes "preview"))

abbrev pub IsPostWord : List ℕ → Type 0
IsPostWord word = Says word (codes "post") ⊎ (Says word (codes "rev") ⊎ Says word (codes "r"))

abbrev pub IsDevWord : List ℕ → Type 0
IsDevWord word = Says word (codes "dev")

-- a separator and a digit
abbrev pub starts_number : List ℕ → Bool
starts_number [] = false
starts_number (s ∷ []) = false
starts_number (s ∷ d ∷ rest) = is_separator s && is_ascii_digit d

-- a labelled pre part, and what follows it: where nothing stands behind the word, no separator and digit
-- follow, since digits behind a pre word and a separator are its number: `1a-1` is `1a1`
pub record IsPreLabel (IsWord : List ℕ → Type 0) (text : List ℕ) (n : ℕ) (follows : List ℕ) : Type 0 where
  pub label : IsLabelled IsWord text n
  pub own_digits : label.second ++ label.digits ≡ [] → starts_number follows ≡ false

-- `[pre]`, and what follows it (PEP 440, "Pre-releases")
abbrev pub IsPre : List ℕ → List ℕ → Option Pre → Type 0
IsPre text follows None = text ≡ []
IsPre text follows (Some (Alpha n)) = IsPreLabel IsAlphaWord text n follows
IsPre text follows (Some (Beta n)) = IsPreLabel IsBetaWord text n follows
IsPre text follows (Some (Candidate n)) = IsPreLabel IsCandidateWord text n follows

-- `[post]`: `- digits`, or labelled (PEP 440, "Post-releases" and "Implicit post releases")
abbrev pub IsPost : List ℕ → Option ℕ → Type 0
IsPost text None = text ≡ []
IsPost text (Some n) = IsLabelled IsPostWord text n ⊎ ((digits : List ℕ) × (text ≡ 45 ∷ digits) × IsNumeral digits n)

-- `[dev]` (PEP 440, "Developmental releases")
abbrev pub IsDev : List ℕ → Option ℕ → Type 0
IsDev text None = text ≡ []
IsDev text (Some n) = IsLabelled IsDevWord text n

-- a local part of digits is a number, and any other of letters and digits a word in lower case
abbrev pub IsLocalPart : List ℕ → LocalPart → Type 0
IsLocalPart text (Number n) = IsNumeral text n
IsLocalPart text (Word w) = (list_all is_ascii_alphanumeric text ≡ true) × (list_all is_ascii_digit text ≡ false) × Says text w

-- local parts with separators between them (PEP 440, "Local version segments")
abbrev pub IsLocalParts : List ℕ → List LocalPart → Type 0
IsLocalParts text [] = ⊥
IsLocalParts text (p ∷ []) = IsLocalPart text p
IsLocalParts text (p ∷ q ∷ ps) = (first : List ℕ) × (s : ℕ) × (rest : List ℕ) × (text ≡ first ++ s ∷ rest) × (is_separator s ≡ true)
    × IsLocalPart first p × IsLocalParts rest (q ∷ ps)

-- `[+ local]` (PEP 440, "Local version identifiers")
abbrev pub IsLocal : List ℕ → List LocalPart → Type 0
IsLocal text [] = text ≡ []
IsLocal text (p ∷ ps) = (body : List ℕ) × (text ≡ 43 ∷ body) × IsLocalParts body (p ∷ ps)

-- a version with nothing around it
pub record IsVersionText (text : List ℕ) (v : VersionParts) : Type 0 where
  pub lead : List ℕ
  pub epoch : List ℕ
  pub release : List ℕ
  pub pre : List ℕ
  pub post : List ℕ
  pub dev : List ℕ
  pub local : List ℕ
  pub whole : text ≡ lead ++ (epoch ++ (release ++ (pre ++ (post ++ (dev ++ local)))))
  pub is_lead : IsLead lead
  pub is_epoch : IsEpoch epoch v.epoch
  pub is_release : IsRelease release v.release
  pub is_pre : IsPre pre (post ++ (dev ++ local)) v.pre
  pub is_post : IsPost post v.post
  pub is_dev : IsDev dev v.dev
  pub is_local : IsLocal local v.local

-- space, tab, LF, vertical tab, form feed or CR (PEP 440, "Leading and Trailing Whitespace")
abbrev pub is_space : ℕ → Bool
is_space b = (b == 32) || (nat_le 9 b && nat_le b 13)

-- the text spells the version, white space around it or not
pub record Spells (text : List ℕ) (v : VersionParts) : Type 0 where
  pub before : List ℕ
  pub inner : List ℕ
  pub after : List ℕ
  pub whole : text ≡ before ++ (inner ++ after)
  pub spaces_before : list_all is_space before ≡ true
  pub spaces_after : list_all is_space after ≡ true
  pub version : IsVersionText inner v

-- what `Version::parse` may answer to a text
abbrev pub ParseAnswers : List ℕ → Result VersionParts Fault → Type 0
ParseAnswers text (Ok v) = Spells text v × (fits v ≡ true)
ParseAnswers text (Err NumberTooLarge) = (v : VersionParts) × Spells text v × (fits v ≡ false)
ParseAnswers text (Err BadVersion) = (v : VersionParts) → ¬ Spells text v
ParseAnswers text (Err OutOfMemory) = ⊤
ParseAnswers text (Err (BadClause k)) = ⊥
ParseAnswers text (Err ArbitraryEquality) = ⊥
