-- The names of a search are known, and how much of the tree of choices is left.
use Rattle.std.proofs.Common.{ℕ, zero, suc, List, [], ◌∷◌, ◌++◌, ◌≡◌, ◌<◌, ◌≤◌, ◌+◌, ◌*◌, inl, inr, Contains, length, map, get_or, subst, arith, true, mul-le-mul_right}
use Rattle.search.proofs.Least.{nat-order}
use Rattle.lists.proofs.Members.{Contains-here, Contains-cons_cases, Contains-nil, Contains-map_of}
use Rattle.search.proofs.Ranges.{nodes-own}
use Rattle.search.specs.declared.parts.Frame.{Frame}
use Rattle.search.specs.Rules.{Rules, IsLawful}
use Rattle.search.specs.Tied.Search.{pin_at, IsSearch}
use Rattle.search.specs.Solutions.{Pin}
use Rattle.search.specs.Table.{TableParts, rules_of, requirement_at, in_range}

-- ---- the names of a search

abbrev pub names_of : List Frame → List ℕ
names_of fs = map (λ f. f.name) fs

pub names-below : (rules : Rules ℕ ℕ ℕ ℕ) (bound : ℕ) → ((n : ℕ) → 0 < length (rules.candidates n) → n < bound) → (before : List (Pin ℕ ℕ)) (fs : List Frame) → IsSearch rules before fs → (n : ℕ) → Contains (names_of fs) n → n < bound
names-below rules bound known before [] h n i = absurd (Contains-nil n i)
names-below rules bound known before (f ∷ fs) h n i = elim (Contains-cons_cases f.name (names_of fs) n i) [
  | inl e ↦ subst (λ m. m < bound) e (known f.name (let l = h.0.turn in omega arith))
  | inr r ↦ names-below rules bound known (before ++ pin_at f ∷ []) fs h.1 n r
]

-- the names of a search are known
pub frames-below : (rules : Rules ℕ ℕ ℕ ℕ) (bound : ℕ) → ((n : ℕ) → 0 < length (rules.candidates n) → n < bound) → (fs : List Frame) → IsSearch rules [] fs → (f : Frame) → Contains fs f → f.name < bound
frames-below rules bound known fs h f i = names-below rules bound known [] fs h f.name (Contains-map_of (λ (g : Frame). g.name) fs f i)

-- ---- how much of the tree of choices is left

abbrev pub power : ℕ → ℕ → ℕ
power base zero = 1
power base (suc n) = base * power base n

pub power-pos : (base n : ℕ) → 0 < base → 0 < power base n
power-pos base zero b = omega arith
power-pos base (suc n) b = let k = power-pos base n b in let m : 1 * power base n ≤ base * power base n = mul-le-mul_right (power base n) b in omega arith

-- base: more than any name's candidates. depth: how many names are left
abbrev pub digits_left : ℕ → ℕ → List ℕ → ℕ
digits_left base depth [] = power base depth
digits_left base zero (d ∷ ds) = 0
digits_left base (suc depth) (d ∷ ds) = d * power base depth + digits_left base depth ds

pub digits_left-pos : (base depth : ℕ) (ds : List ℕ) → 0 < base → length ds ≤ depth → 0 < digits_left base depth ds
digits_left-pos base depth [] b l = power-pos base depth b
digits_left-pos base zero (d ∷ ds) b l = absurd (omega arith)
digits_left-pos base (suc depth) (d ∷ ds) b l = let k = digits_left-pos base depth ds b (omega arith) in omega arith

push-arith : (left base p : ℕ) → 0 < p → suc left < base → left * p + p < base * p
push-arith left base p h b = let m : suc (suc left) * p ≤ base * p = mul-le-mul_right p b in omega arith

-- one digit more
pub digits_left-push : (base depth : ℕ) (ds : List ℕ) (d : ℕ) → length ds < depth → suc d < base → digits_left base depth (ds ++ d ∷ []) < digits_left base depth ds
digits_left-push base zero ds d l b = absurd (omega arith)
digits_left-push base (suc depth) [] d l b = push-arith d base (power base depth) (power-pos base depth (omega arith)) b
digits_left-push base (suc depth) (e ∷ ds) d l b = let k = digits_left-push base depth ds d (omega arith) b in omega arith

more-arith : (low high p q : ℕ) → low < high → 0 < q → low * p + p < high * p + q
more-arith low high p q h k = let m : suc low * p ≤ high * p = mul-le-mul_right p h in omega arith

-- a lesser digit, and none behind it
pub digits_left-more : (base depth : ℕ) (ds : List ℕ) (d e : ℕ) (rest : List ℕ) → 0 < base → length (ds ++ d ∷ rest) ≤ depth → e < d → digits_left base depth (ds ++ e ∷ []) < digits_left base depth (ds ++ d ∷ rest)
digits_left-more base zero [] d e rest b l h = absurd (omega arith)
digits_left-more base zero (x ∷ ds) d e rest b l h = absurd (omega arith)
digits_left-more base (suc depth) [] d e rest b l h = more-arith e d (power base depth) (digits_left base depth rest) h (digits_left-pos base depth rest b (omega arith))
digits_left-more base (suc depth) (x ∷ ds) d e rest b l h = let k = digits_left-more base depth ds d e rest b (omega arith) h in omega arith

-- ---- the work that is left, at a table

pub table-lawful : (t : TableParts) → in_range t ≡ true → IsLawful (rules_of t)
table-lawful t known = record {
  order = nat-order;
  some = λ r. ((requirement_at t r).node, Contains-here (requirement_at t r).node (requirement_at t r).more);
  own = λ r node i. nodes-own t known r node i;
}

pub candidates-named : (css : List (List ℕ)) (n : ℕ) → 0 < length (get_or css n []) → n < length css
candidates-named [] n l = absurd (omega arith)
candidates-named (cs ∷ css) zero l = omega arith
candidates-named (cs ∷ css) (suc n) l = let k = candidates-named css n l in omega arith

abbrev pub candidates_count : List (List ℕ) → ℕ
candidates_count [] = 0
candidates_count (cs ∷ css) = length cs + candidates_count css

pub candidates-counted : (css : List (List ℕ)) (n : ℕ) → length (get_or css n []) ≤ candidates_count css
candidates-counted [] n = omega arith
candidates-counted (cs ∷ css) zero = omega arith
candidates-counted (cs ∷ css) (suc n) = let k = candidates-counted css n in omega arith

-- more than the candidates of any name
abbrev pub base_of : TableParts → ℕ
base_of t = candidates_count t.candidates + 2

pub frames-known : (t : TableParts) (fs : List Frame) → IsSearch (rules_of t) [] fs → (f : Frame) → Contains fs f → f.name < length t.candidates
frames-known t fs h = frames-below (rules_of t) (length t.candidates) (candidates-named t.candidates) fs h
