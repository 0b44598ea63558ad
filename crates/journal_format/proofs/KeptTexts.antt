-- A text that reads as a version doesn't end in `+`, so an environment's texts are kept as they are.
use Rattle.std.proofs.Common.{◌≡◌, ◌⊎◌, ℕ, ◌-◌, ◌<◌, ◌==◌, true, false, Bool, List, [], ◌∷◌, ◌++◌, length, length-append, map, codes, Option, Some, None, Result, Ok, Err, refl, sym, ap, subst, ◌∙◌, inl, inr, arith, true≢false}
use Rattle.std.specs.Prelude.{suc, is_some, if◌then◌else◌, ◌&&◌, nat_lt, slice_index}
use Rattle.std.specs.List.{list_all}
use Rattle.std.specs.Char.{is_ascii_alphanumeric, is_ascii_digit, to_ascii_lowercase}
use Rattle.std.proofs.lemmas.Bool.{and_parts}
use Rattle.pep440.specs.declared.parts.LocalPart.{LocalPart}
use Rattle.pep440.specs.declared.parts.LocalPart.TheVariants.{Number, Word}
use Rattle.pep440.specs.declared.parts.Pre.{Pre}
use Rattle.pep440.specs.declared.parts.Pre.TheVariants.{Alpha, Beta, Candidate}
use Rattle.pep440.specs.declared.fault.Fault.{Fault}
use Rattle.pep440.specs.declared.fault.Fault.TheVariants.{NumberTooLarge}
use Rattle.pep440.specs.Grammar.{IsDev, IsEpoch, IsLabelled, IsLead, IsLocal, IsLocalPart, IsLocalParts, IsNumeral, IsPost, IsPre, IsRelease, IsSeparator, IsVersionText, Says, Spells, is_separator, is_space}
use Rattle.pep440.specs.Version.{VersionParts, fits}
use Rattle.pep440.specs.Tied.Reading.{fitting, parts_of, version_of}
use Rattle.pep440.proofs.Trims.{parts-spell}
use Rattle.std.specs.Result.{result_ok}
use Rattle.std.proofs.lemmas.Bool.Decides.{nat_tests}
use Rattle.markers.specs.Comparisons.{version_read}
use Rattle.markers.specs.Environment.{ends_in_plus, is_lawful, is_unescaped, kept_text}
use Rattle.markers.specs.declared.variable.Variable.{Variable}
use Rattle.markers.specs.declared.variable.Variable.TheVariants as variables

-- the last byte, where there is one, isn't `+`
abbrev pub IsClear : List ℕ → Type 0
IsClear [] = Unit {0}
IsClear (b ∷ []) = b ≡ 43 → ⊥
IsClear (b ∷ c ∷ rest) = IsClear (c ∷ rest)

clear_by : (b : ℕ) (c : List ℕ) → (c ≡ [] → b ≡ 43 → ⊥) → IsClear c → IsClear (b ∷ c)
clear_by b [] h rest = h refl
clear_by b (c ∷ cs) h rest = rest

-- joined texts
clear-append : (xs ys : List ℕ) → IsClear xs → IsClear ys → IsClear (xs ++ ys)
clear-append [] ys h g = g
clear-append (x ∷ []) [] h g = h
clear-append (x ∷ []) (y ∷ ys) h g = g
clear-append (x ∷ y ∷ xs) ys h g = clear-append (y ∷ xs) ys h g

-- something stands behind
clear-behind : (xs : List ℕ) (y : ℕ) (ys : List ℕ) → IsClear (y ∷ ys) → IsClear (xs ++ y ∷ ys)
clear-behind [] y ys g = g
clear-behind (x ∷ []) y ys g = g
clear-behind (x ∷ z ∷ xs) y ys g = clear-behind (z ∷ xs) y ys g

module _ (test : ℕ → Bool) (other : test 43 ≡ false) where
  clear-all : (xs : List ℕ) → list_all test xs ≡ true → IsClear xs
  clear-all [] h = tt
  clear-all (x ∷ []) h = λ is. true≢false (sym (and_parts (test x) true h).0 ∙ ap test is ∙ other)
  clear-all (x ∷ y ∷ xs) h = clear-all (y ∷ xs) (and_parts (test x) (list_all test (y ∷ xs)) h).1

-- a word in letters of either case
clear-says : (text word : List ℕ) → Says text word → IsClear word → IsClear text
clear-says [] word h g = tt
clear-says (x ∷ []) word h g =
    let word_is : IsClear (to_ascii_lowercase x ∷ []) = subst IsClear (sym h) g in
    λ is. word_is (ap to_ascii_lowercase is)
clear-says (x ∷ y ∷ xs) word h g = clear-says (y ∷ xs) (map to_ascii_lowercase (y ∷ xs)) refl (subst IsClear (sym h) g)

one_of : {A B : Type 0} (C : Type 0) → A ⊎ B → (A → C) → (B → C) → C
one_of C (inl a) f g = f a
one_of C (inr b) f g = g b

clear-numeral : (text : List ℕ) (n : ℕ) → IsNumeral text n → IsClear text
clear-numeral text n h = clear-all is_ascii_digit refl text h.digits

clear-separator : (text : List ℕ) → IsSeparator text → IsClear text
clear-separator [] h = tt
clear-separator (s ∷ []) h = clear-all is_separator refl (s ∷ []) (rw h refl)
clear-separator (s ∷ t ∷ rest) h = absurd h

clear-labelled : (IsWord : List ℕ → Type 0) → ((word : List ℕ) → IsWord word → IsClear word) → (text : List ℕ) (n : ℕ) → IsLabelled IsWord text n → IsClear text
clear-labelled IsWord words text n h =
    subst IsClear (sym h.whole)
    (clear-append h.first (h.word ++ (h.second ++ h.digits)) (clear-separator h.first h.separates)
    (clear-append h.word (h.second ++ h.digits) (words h.word h.says)
    (clear-append h.second h.digits (clear-separator h.second h.separates_more) (clear-all is_ascii_digit refl h.digits h.are_digits))))

letter : (n : ℕ) → nat_lt 43 n ≡ true → IsClear (n ∷ [])
letter n h = λ is. true≢false (sym h ∙ ap (nat_lt 43) is)

clear-lead : (text : List ℕ) → IsLead text → IsClear text
clear-lead text (inl is) = subst IsClear (sym is) tt
clear-lead text (inr says) = clear-says text (codes "v") says (letter 118 refl)

clear-epoch : (text : List ℕ) (n : ℕ) → IsEpoch text n → IsClear text
clear-epoch text n (inl h) = subst IsClear (sym h.0) tt
clear-epoch text n (inr h) = subst IsClear (sym h.1) (clear-behind h.0 33 [] (λ is. absurd (omega (arith, is))))

clear-release : (text ns : List ℕ) → IsRelease text ns → IsClear text
clear-release text [] h = absurd h
clear-release text (n ∷ []) h = clear-numeral text n h
clear-release text (n ∷ m ∷ ns) h =
    subst IsClear (sym h.2) (clear-append h.0 (46 ∷ h.1) (clear-numeral h.0 n h.3) (clear-append (46 ∷ []) h.1 (letter 46 refl) (clear-release h.1 (m ∷ ns) h.4)))

clear-pre : (text follows : List ℕ) (pre : Option Pre) → IsPre text follows pre → IsClear text
clear-pre text follows None h = subst IsClear (sym h) tt
clear-pre text follows (Some (Alpha n)) h =
    clear-labelled _ (λ word says. one_of (IsClear word) says (λ s. clear-says word (codes "a") s (letter 97 refl)) (λ s. clear-says word (codes "alpha") s (letter 97 refl))) text n h.label
clear-pre text follows (Some (Beta n)) h =
    clear-labelled _ (λ word says. one_of (IsClear word) says (λ s. clear-says word (codes "b") s (letter 98 refl)) (λ s. clear-says word (codes "beta") s (letter 97 refl))) text n h.label
clear-pre text follows (Some (Candidate n)) h =
    clear-labelled _ (λ word says. one_of (IsClear word) says
    (λ short. one_of (IsClear word) short (λ s. clear-says word (codes "c") s (letter 99 refl)) (λ s. clear-says word (codes "rc") s (letter 99 refl)))
    (λ long. one_of (IsClear word) long (λ s. clear-says word (codes "pre") s (letter 101 refl)) (λ s. clear-says word (codes "preview") s (letter 119 refl)))) text n h.label

clear-post : (text : List ℕ) (post : Option ℕ) → IsPost text post → IsClear text
clear-post text None h = subst IsClear (sym h) tt
clear-post text (Some n) (inl h) =
    clear-labelled _ (λ word says. one_of (IsClear word) says (λ s. clear-says word (codes "post") s (letter 116 refl))
    (λ short. one_of (IsClear word) short (λ s. clear-says word (codes "rev") s (letter 118 refl)) (λ s. clear-says word (codes "r") s (letter 114 refl)))) text n h
clear-post text (Some n) (inr h) = subst IsClear (sym h.1) (clear-append (45 ∷ []) h.0 (letter 45 refl) (clear-numeral h.0 n h.2))

clear-dev : (text : List ℕ) (dev : Option ℕ) → IsDev text dev → IsClear text
clear-dev text None h = subst IsClear (sym h) tt
clear-dev text (Some n) h = clear-labelled _ (λ word says. clear-says word (codes "dev") says (letter 118 refl)) text n h

-- a local part isn't empty
some-part : (text : List ℕ) (p : LocalPart) → IsLocalPart text p → 0 < length text
some-part text (Number n) h = h.some
some-part [] (Word w) h = absurd (true≢false h.1)
some-part (b ∷ text) (Word w) h = omega arith

clear-part : (text : List ℕ) (p : LocalPart) → IsLocalPart text p → IsClear text
clear-part text (Number n) h = clear-numeral text n h
clear-part text (Word w) h = clear-all is_ascii_alphanumeric refl text h.0

clear-parts : (text : List ℕ) (ps : List LocalPart) → IsLocalParts text ps → (0 < length text) × IsClear text
clear-parts text [] h = absurd h
clear-parts text (p ∷ []) h = (some-part text p h, clear-part text p h)
clear-parts text (p ∷ q ∷ ps) h =
    let rest = clear-parts h.2 (q ∷ ps) h.6 in (
      rw h.3 (let e = length-append h.0 (h.1 ∷ h.2) in omega (arith, e)),
      subst IsClear (sym h.3) (clear-behind h.0 h.1 h.2 (clear_by h.1 h.2 (λ none. absurd (let e = ap length none in let some = rest.0 in omega (arith, e, some))) rest.1)),
    )

clear-local : (text : List ℕ) (ps : List LocalPart) → IsLocal text ps → IsClear text
clear-local text [] h = subst IsClear (sym h) tt
clear-local text (p ∷ ps) h =
    let body = clear-parts h.0 (p ∷ ps) h.2 in
    subst IsClear (sym h.1) (clear_by 43 h.0 (λ none. absurd (let e = ap length none in let some = body.0 in omega (arith, e, some))) body.1)

clear-version : (text : List ℕ) (v : VersionParts) → IsVersionText text v → IsClear text
clear-version text v h =
    subst IsClear (sym h.whole)
    (clear-append h.lead _ (clear-lead h.lead h.is_lead)
    (clear-append h.epoch _ (clear-epoch h.epoch v.epoch h.is_epoch)
    (clear-append h.release _ (clear-release h.release v.release h.is_release)
    (clear-append h.pre _ (clear-pre h.pre _ v.pre h.is_pre)
    (clear-append h.post _ (clear-post h.post v.post h.is_post)
    (clear-append h.dev h.local (clear-dev h.dev v.dev h.is_dev) (clear-local h.local v.local h.is_local)))))))

-- a text that spells a version doesn't end in `+`
pub clear-spelled : (text : List ℕ) (v : VersionParts) → Spells text v → IsClear text
clear-spelled text v h =
    subst IsClear (sym h.whole)
    (clear-append h.before (h.inner ++ h.after) (clear-all is_space refl h.before h.spaces_before)
    (clear-append h.inner h.after (clear-version h.inner v h.version) (clear-all is_space refl h.after h.spaces_after)))

-- ---- the text of a variable is kept as it is

last-more : (b c : ℕ) (rest : List ℕ) → slice_index (b ∷ c ∷ rest) (length (b ∷ c ∷ rest) - 1) ≡ slice_index (c ∷ rest) (length (c ∷ rest) - 1)
last-more b c rest =
    let place : length (b ∷ c ∷ rest) - 1 ≡ suc (length (c ∷ rest) - 1) = omega arith in
    ap (slice_index (b ∷ c ∷ rest)) place

plus-last : (xs : List ℕ) → IsClear xs → slice_index xs (length xs - 1) ≡ 43 → ⊥
plus-last [] h is = absurd (omega (arith, is))
plus-last (b ∷ []) h is = h is
plus-last (b ∷ c ∷ rest) h is = plus-last (c ∷ rest) h (sym (last-more b c rest) ∙ is)

not-plus : (some : Bool) (last : ℕ) → (last ≡ 43 → ⊥) → (some && (last == 43)) ≡ false
not-plus true last h = grind (arith, nat_tests)
not-plus false last h = refl

plain : (xs : List ℕ) → IsClear xs → ends_in_plus xs ≡ false
plain xs h = not-plus (nat_lt 0 (length xs)) (slice_index xs (length xs - 1)) (plus-last xs h)

fits-read : (parts : Option VersionParts) (v : VersionParts) → fitting parts ≡ Ok v → parts ≡ Some v
fits-read None v is = absurd cc
fits-read (Some w) v is = fits-some (fits w) w v is
  where
    fits-some : (b : Bool) (w v : VersionParts) → (if b then Ok w else Err NumberTooLarge) ≡ Ok v → Some w ≡ Some v
    fits-some true w v is = let same : w ≡ v = cc in ap Some same
    fits-some false w v is = absurd cc

read-ok : {V : Type 0} (r : Result V Fault) → is_some (result_ok r) ≡ true → (v : V) × (r ≡ Ok v)
read-ok (Ok v) h = (v, refl)
read-ok (Err e) h = absurd (true≢false (sym h))

-- a text that reads as a version doesn't end in `+`
version-plain : (text : List ℕ) → is_some (version_read text) ≡ true → ends_in_plus text ≡ false
unfolding version_read
version-plain text h =
    let v = read-ok (version_of text) h in
    plain text (clear-spelled text v.0 (parts-spell text v.0 (fits-read (parts_of text) v.0 v.1)))

-- the text that an environment has for a variable is kept as it is
pub kept-lawful : (variable : Variable) (text : List ℕ) → is_lawful variable text ≡ true → kept_text variable text ≡ text
kept-lawful variables.ImplementationName text h = refl
kept-lawful variables.ImplementationVersion text h = refl
kept-lawful variables.OsName text h = refl
kept-lawful variables.PlatformMachine text h = refl
kept-lawful variables.PlatformPythonImplementation text h = refl
kept-lawful variables.PlatformRelease text h = refl
kept-lawful variables.PlatformSystem text h = refl
kept-lawful variables.PlatformVersion text h = refl
kept-lawful variables.PythonFullVersion text h =
    rw (version-plain text (and_parts (list_all is_unescaped text) (is_some (version_read text)) h).1) refl
kept-lawful variables.PythonVersion text h = refl
kept-lawful variables.SysPlatform text h = refl
