-- The laws of the order of versions and of their hash.
-- Tied to `version_cmp` and `version_writes` by the impls of `Ord` and `Hash`; need not be read.
use Rattle.std.specs.Prelude.{◌≡◌, ℕ, ◌++◌, true, List, [], ◌∷◌, refl}
use Rattle.std.proofs.Common.{sym, ap, ◌∙◌}
use Rattle.std.specs.Ordering.{eq_by_cmp, is_eq, nat_cmp, ordering_then}
use Rattle.std.specs.declared.cmp.Ordering.{Ordering}
use Rattle.std.specs.Cmp.{IsTotalOrder, first_so, second_so, tied_then, nat_cmp_total, on_total, then_total, unsigned_Decides, unsigned_tied}
use Rattle.std.specs.Cmp.Lexicographic.{slice_cmp, lists_ties, lists_total, nat_list_cmp_total, same_text, texts_ties}
use Rattle.std.specs.Hash as fed
use Rattle.std.specs.Hash.{items_Alike}
use Rattle.pep440.specs.declared.parts.LocalPart.{LocalPart}
use Rattle.pep440.specs.declared.parts.LocalPart.TheVariants.{Word, Number}
use Rattle.pep440.specs.Version.{VersionParts}
use Rattle.pep440.specs.Order.{dev_key, part_cmp, part_key, post_key, pre_key, public_cmp, rank_cmp, trimmed, version_cmp}
use Rattle.pep440.specs.Hash.{part_writes, rank_writes, version_writes}

pub rank_total : IsTotalOrder rank_cmp
rank_total = then_total (on_total (λ p. p.0) nat_cmp_total) (on_total (λ p. p.1) nat_cmp_total)

pub part_total : IsTotalOrder part_cmp
part_total = on_total part_key nat_list_cmp_total

pub public_total : IsTotalOrder public_cmp
public_total = then_total (on_total (λ v. v.epoch) nat_cmp_total)
    (then_total (on_total (λ v. trimmed v.release) nat_list_cmp_total)
    (then_total (on_total pre_key rank_total)
    (then_total (on_total (λ v. post_key v.post) rank_total) (on_total (λ v. dev_key v.dev) rank_total))))

pub version_total : IsTotalOrder version_cmp
version_total = then_total public_total (on_total (λ v. v.local) (lists_total part_total))

-- ---- what ties is fed alike

-- a tie of two orders is a tie of the first, and of the second
pub first_tie : (a b : Ordering) → is_eq (ordering_then a b) ≡ true → is_eq a ≡ true
first_tie a b h = first_so (is_eq a) (is_eq b) (tied_then a b ∙ h)

pub second_tie : (a b : Ordering) → is_eq (ordering_then a b) ≡ true → is_eq b ≡ true
second_tie a b h = second_so (is_eq a) (is_eq b) (tied_then a b ∙ h)

pub nat_tie : (m n : ℕ) → is_eq (nat_cmp m n) ≡ true → m ≡ n
nat_tie m n h = (unsigned_Decides m n).0 (sym (unsigned_tied m n) ∙ h)

pub list_tie : (xs ys : List ℕ) → is_eq (slice_cmp nat_cmp xs ys) ≡ true → xs ≡ ys
list_tie xs ys h = same_text xs ys (sym (texts_ties xs ys ∙ h))

rank_tie : (p q : ℕ × ℕ) → is_eq (rank_cmp p q) ≡ true → rank_writes p ≡ rank_writes q
rank_tie p q h =
    let a = nat_tie p.0 q.0 (first_tie (nat_cmp p.0 q.0) (nat_cmp p.1 q.1) h) in
    let b = nat_tie p.1 q.1 (second_tie (nat_cmp p.0 q.0) (nat_cmp p.1 q.1) h) in
    λ i. fed.u8 (a i) ++ fed.u64 (b i)

pub part_fed : (x y : LocalPart) → eq_by_cmp part_cmp x y ≡ true → part_writes x ≡ part_writes y
part_fed (Word a) (Word b) h = let e = list_tie (0 ∷ a) (0 ∷ b) h in ap fed.str cc
part_fed (Word a) (Number n) h = let e = list_tie (0 ∷ a) (1 ∷ n ∷ []) h in absurd cc
part_fed (Number m) (Word b) h = let e = list_tie (1 ∷ m ∷ []) (0 ∷ b) h in absurd cc
part_fed (Number m) (Number n) h = let e = list_tie (1 ∷ m ∷ []) (1 ∷ n ∷ []) h in ap fed.u64 cc

locals_fed : (xs ys : List LocalPart) → is_eq (slice_cmp part_cmp xs ys) ≡ true → fed.slice part_writes xs ≡ fed.slice part_writes ys
locals_fed xs ys h = (items_Alike (record { fed = part_fed })).fed xs ys (lists_ties part_cmp (λ x y. refl) xs ys ∙ h)

-- versions that tie feed a hasher alike
pub version_fed : (v w : VersionParts) → eq_by_cmp version_cmp v w ≡ true → version_writes v ≡ version_writes w
version_fed v w h =
    let epoch = nat_cmp v.epoch w.epoch in
    let release = slice_cmp nat_cmp (trimmed v.release) (trimmed w.release) in
    let pre = rank_cmp (pre_key v) (pre_key w) in
    let post = rank_cmp (post_key v.post) (post_key w.post) in
    let dev = rank_cmp (dev_key v.dev) (dev_key w.dev) in
    let local = slice_cmp part_cmp v.local w.local in
    let h1 = first_tie (public_cmp v w) local h in
    let h2 = second_tie epoch (ordering_then release (ordering_then pre (ordering_then post dev))) h1 in
    let h3 = second_tie release (ordering_then pre (ordering_then post dev)) h2 in
    let h4 = second_tie pre (ordering_then post dev) h3 in
    let e0 = nat_tie v.epoch w.epoch (first_tie epoch (ordering_then release (ordering_then pre (ordering_then post dev))) h1) in
    let e1 = list_tie (trimmed v.release) (trimmed w.release) (first_tie release (ordering_then pre (ordering_then post dev)) h2) in
    let e2 = rank_tie (pre_key v) (pre_key w) (first_tie pre (ordering_then post dev) h3) in
    let e3 = rank_tie (post_key v.post) (post_key w.post) (first_tie post dev h4) in
    let e4 = rank_tie (dev_key v.dev) (dev_key w.dev) (second_tie post dev h4) in
    let e5 = locals_fed v.local w.local (second_tie (public_cmp v w) local h) in
    λ i. fed.u64 (e0 i) ++ (fed.slice fed.u64 (e1 i) ++ (e2 i ++ (e3 i ++ (e4 i ++ e5 i))))
