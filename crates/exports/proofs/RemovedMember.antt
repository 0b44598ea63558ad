-- A table after a key was taken out of it.
use Rattle.std.proofs.Common.{◌≡◌, ◌∙◌, ℕ, ◌≤◌, ◌&&◌, max, Bool, true, false, List, [], ◌∷◌, String, Global, Ordering, codes, string_bytes, if◌then◌else◌, arith, refl, ap}
use Rattle.std.specs.BTreeMap.{is_at}
use Rattle.std.specs.Cmp.Lexicographic.{slice_cmp}
use Rattle.std.specs.Map.{remove_entry}
use Rattle.std.specs.Ordering.{nat_cmp}
use Rattle.std.specs.Str.{bytes_eq}
use Rattle.std.proofs.lemmas.Map.Text.{is_eq-slice_cmp}
use Rattle.toml.specs.Data.{Data, depth, has_valid_dates, members_depth, members_have_valid_dates, Members, no_members, member}
use Rattle.toml.specs.View.{members_view, view}
use Rattle.toml.specs.declared.value.Value.{Value}
use Rattle.exports.specs.WithoutMember.{without_member}

taken : (b : Bool) (e : String Global × Value) (es : List (String Global × Value)) (key : List ℕ) (compare : String Global → Ordering)
    → members_view (remove_entry (is_at compare) es) ≡ without_member key (members_view es)
    → members_view (if b then es else e ∷ remove_entry (is_at compare) es) ≡ (if b then members_view es else member (string_bytes e.0) (view e.1) (without_member key (members_view es)))
taken true e es key compare h = refl
taken false e es key compare h = ap (member (string_bytes e.0) (view e.1)) h

-- what the map of a table holds after a removal
pub removed : (compare : String Global → Ordering) (key : List ℕ) → ((name : String Global) → is_at compare name ≡ bytes_eq key (string_bytes name))
    → (es : List (String Global × Value)) → members_view (remove_entry (is_at compare) es) ≡ without_member key (members_view es)
removed compare key same [] = refl
removed compare key same (e ∷ es) = rw (same e.0) (taken (bytes_eq key (string_bytes e.0)) e es key compare (removed compare key same es))

-- what a table without environments holds
pub unbound : (ms : Members) (old new : List (String Global × Value)) → members_view old ≡ ms → new ≡ remove_entry (is_at (λ name. slice_cmp nat_cmp (codes "environments") (string_bytes name))) old
    → members_view new ≡ without_member (codes "environments") ms
unbound ms old new is taken_out =
    ap members_view taken_out
    ∙ removed (λ name. slice_cmp nat_cmp (codes "environments") (string_bytes name)) (codes "environments") (λ name. is_eq-slice_cmp (codes "environments") (string_bytes name)) old
    ∙ ap (without_member (codes "environments")) is

shallower : (b : Bool) (name : List ℕ) (d : Data) (rest less : Members) → members_depth less ≤ members_depth rest → members_depth (if b then rest else member name d less) ≤ max (depth d) (members_depth rest)
shallower true name d rest less h = omega arith
shallower false name d rest less h = omega arith

-- it is no deeper
pub without-depth : (key : List ℕ) (ms : Members) → members_depth (without_member key ms) ≤ members_depth ms
without-depth key no_members = omega arith
without-depth key (member name d rest) = shallower (bytes_eq key name) name d rest (without_member key rest) (without-depth key rest)

both-first : (a b : Bool) → (a && b) ≡ true → a ≡ true
both-first true b h = refl
both-first false b h = h

both-second : (a b : Bool) → (a && b) ≡ true → b ≡ true
both-second true b h = h
both-second false b h = absurd cc

valid : (b : Bool) (name : List ℕ) (d : Data) (rest less : Members) → has_valid_dates d ≡ true → members_have_valid_dates rest ≡ true → members_have_valid_dates less ≡ true
    → members_have_valid_dates (if b then rest else member name d less) ≡ true
valid true name d rest less h k l = k
valid false name d rest less h k l = rw (h, l) refl

-- and its date-times are as before
pub without-valid : (key : List ℕ) (ms : Members) → members_have_valid_dates ms ≡ true → members_have_valid_dates (without_member key ms) ≡ true
without-valid key no_members h = refl
without-valid key (member name d rest) h =
    let behind : members_have_valid_dates rest ≡ true = both-second (has_valid_dates d) _ h in
    valid (bytes_eq key name) name d rest (without_member key rest) (both-first (has_valid_dates d) _ h) behind (without-valid key rest behind)
