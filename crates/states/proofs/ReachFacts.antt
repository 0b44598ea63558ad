-- The names that requirements lead to, as they are followed.
use Rattle.std.proofs.Common.{◌≡◌, ◌≢◌, ◌+◌, ◌≤◌, ◌<◌, ◌++◌, ℕ, List, [], ◌∷◌, Contains, Option, Some, None, length, take, get_or, map, true, refl, sym, ap, ◌∙◌, subst, inl, inr, arith, append_assoc, append-nil}
use Rattle.std.proofs.lemmas.List.{length-append, map-append, take-append-le, take_more}
use Rattle.std.proofs.Math.Seq.{take-length}
use Rattle.std.proofs.lemmas.List.Elements.{Contains-append_cases, Contains-append_left, Contains-append_right, Contains-get_or}
use Rattle.std.specs.Bool.{Decides}
use Rattle.std.specs.Cmp.{IsEquivalence, eq_by_cmp_equiv}
use Rattle.std.specs.Cmp.Lexicographic.{nat_list_cmp_total, slice_cmp}
use Rattle.std.specs.List.{AllByRecursion, AllPairs, flat_map}
use Rattle.std.specs.Ordering.{eq_by_cmp, nat_cmp}
use Rattle.std.proofs.lemmas.List.Quantifiers.{all_pairs_push}
use Rattle.std.proofs.lemmas.Map.Made.{IsDistinct-from_AllPairs, length-le_from_is_member}
use Rattle.std.proofs.lemmas.Map.Text.{is_eq-slice_cmp}
use Rattle.std.proofs.lemmas.Map.Views.{Contains-from_any, list_any-from_Contains}
use Rattle.std.proofs.lemmas.Slice.Eq.{bytes_eq-Decides}
use Rattle.markers.specs.Environment.{Texts}
use Rattle.pep508.specs.Requirement.{RequirementParts, requirement_of}
use Rattle.problems.specs.Problem.{active_in, requirements}
use Rattle.std.proofs.lemmas.List.Concat.{flat_map-append}
use Rattle.pylock.specs.Locks.{are_entries}
use Rattle.pylock.specs.Packages.{EntryParts}
use Rattle.states.specs.State.{Reached, by_entry, by_line, entry_on}
use Rattle.states.specs.Tied.LockForLines.{AreReached, IsGrown, names_met, needs_of}
use Rattle.states.proofs.EntryFacts.{entry-from, entry-there}
use Rattle.problems.specs.Tied.Standing.{IsOnce}
use Rattle.lists.proofs.Members.{Contains-cons_cases, Contains-flat_map_of, Contains-map, Contains-map_of, Contains-nil, get_or-any}

-- ---- names that are put behind others

pub IsGrown-none : (names : List (List ℕ)) → IsGrown names names []
IsGrown-none names = record { more = []; whole = sym (append-nil names); from = λ name there. there; all = λ name there. absurd (Contains-nil name there) }

pub IsGrown-kept : (names : List (List ℕ)) (name : List ℕ) → Contains names name → IsGrown names names (name ∷ [])
IsGrown-kept names name there = record {
  more = [];
  whole = sym (append-nil names);
  from = λ n none. absurd (Contains-nil n none);
  all = λ n asked. elim (Contains-cons_cases name [] n asked) [
    | inl same ↦ subst (λ (m : List ℕ). Contains names m) same there
    | inr none ↦ absurd (Contains-nil n none)
  ];
}

pub IsGrown-pushed : (names : List (List ℕ)) (name : List ℕ) → IsGrown names (names ++ name ∷ []) (name ∷ [])
IsGrown-pushed names name = record { more = name ∷ []; whole = refl; from = λ n there. there; all = λ n there. Contains-append_right names (name ∷ []) n there }

kept-grown : (old new asked : List (List ℕ)) → IsGrown old new asked → (name : List ℕ) → Contains old name → Contains new name
kept-grown old new asked g name there = subst (λ (l : List (List ℕ)). Contains l name) (sym g.whole) (Contains-append_left old g.more name there)

-- one after the other
pub IsGrown-then : (old mid new asked more : List (List ℕ)) → IsGrown old mid asked → IsGrown mid new more → IsGrown old new (asked ++ more)
IsGrown-then old mid new asked more g h = record {
  more = g.more ++ h.more;
  whole = h.whole ∙ ap (λ (l : List (List ℕ)). l ++ h.more) g.whole ∙ append_assoc old g.more h.more;
  from = λ n there. elim (Contains-append_cases g.more h.more n there) [
    | inl first ↦ Contains-append_left asked more n (g.from n first)
    | inr second ↦ Contains-append_right asked more n (h.from n second)
  ];
  all = λ n there. elim (Contains-append_cases asked more n there) [
    | inl first ↦ kept-grown mid new more h n (g.all n first)
    | inr second ↦ h.all n second
  ];
}

-- one more name that is asked for
pub IsGrown-more : (old mid new asked : List (List ℕ)) (place : ℕ) (name : List ℕ) → place < length asked → name ≡ get_or asked place name → IsGrown old mid (take place asked)
    → IsGrown mid new (name ∷ []) → IsGrown old new (take (place + 1) asked)
IsGrown-more old mid new asked place name within is g h =
    let one : take (place + 1) asked ≡ take place asked ++ name ∷ [] = take_more asked place name within ∙ ap (λ (n : List ℕ). take place asked ++ n ∷ []) (sym is) in
    subst (IsGrown old new) (sym one) (IsGrown-then old mid new (take place asked) (name ∷ []) g h)

-- one more line
pub IsGrown-line : (environment : Texts) (old mid new lines : List (List ℕ)) (place : ℕ) (line : List ℕ) → place < length lines → line ≡ get_or lines place line
    → IsGrown old mid (map (λ wanted. wanted.name) (requirements environment (take place lines))) → IsGrown mid new (map (λ wanted. wanted.name) (active_in environment (requirement_of line)))
    → IsGrown old new (map (λ wanted. wanted.name) (requirements environment (take (place + 1) lines)))
IsGrown-line environment old mid new lines place line within is g h =
    let f = λ (l : List ℕ). active_in environment (requirement_of l) in
    let one : take (place + 1) lines ≡ take place lines ++ line ∷ [] = take_more lines place line within ∙ ap (λ (n : List ℕ). take place lines ++ n ∷ []) (sym is) in
    let asked : requirements environment (take (place + 1) lines) ≡ requirements environment (take place lines) ++ f line =
    ap (requirements environment) one ∙ flat_map-append f (take place lines) (line ∷ []) ∙ ap (λ (l : List RequirementParts). requirements environment (take place lines) ++ l) (append-nil (f line)) in
    let names : map (λ (w : RequirementParts). w.name) (requirements environment (take (place + 1) lines)) ≡ map (λ (w : RequirementParts). w.name) (requirements environment (take place lines)) ++ map (λ (w : RequirementParts). w.name) (f line) =
    ap (map (λ (w : RequirementParts). w.name)) asked ∙ map-append (λ (w : RequirementParts). w.name) (requirements environment (take place lines)) (f line) in
    subst (IsGrown old new) (sym names) (IsGrown-then old mid new (map (λ wanted. wanted.name) (requirements environment (take place lines))) (map (λ wanted. wanted.name) (f line)) g h)

-- ---- names that are followed

pub record IsFollowed (active : List RequirementParts) (entries : List EntryParts) (names : List (List ℕ)) (followed : ℕ) : Type 0 where
  pub within : followed ≤ length names
  pub sound : (name : List ℕ) → Contains names name → Reached active entries name
  pub asked : (wanted : RequirementParts) → Contains active wanted → Contains names wanted.name
  pub closed : (name : List ℕ) (e : EntryParts) (other : List ℕ) → Contains (take followed names) name → entry_on entries name ≡ Some e → Contains e.dependencies other → Contains names other

pub IsFollowed-start : (active : List RequirementParts) (entries : List EntryParts) (names : List (List ℕ)) → IsGrown [] names (map (λ wanted. wanted.name) active) → IsFollowed active entries names 0
IsFollowed-start active entries names g = record {
  within = omega arith;
  sound = λ name there.
      let k = Contains-map (λ (wanted : RequirementParts). wanted.name) active name (g.from name (subst (λ (l : List (List ℕ)). Contains l name) g.whole there)) in
      subst (Reached active entries) k.2 (by_line k.0 k.1);
  asked = λ wanted there. g.all wanted.name (Contains-map_of (λ (w : RequirementParts). w.name) active wanted there);
  closed = λ name e other none is there. absurd (Contains-nil name none);
}

needs-reached : (active : List RequirementParts) (entries : List EntryParts) (name : List ℕ) (o : Option EntryParts) → entry_on entries name ≡ o → Reached active entries name → (other : List ℕ) → Contains (needs_of o) other → Reached active entries other
needs-reached active entries name None is reached other none = absurd (Contains-nil other none)
needs-reached active entries name (Some e) is reached other there =
    let k = entry-from entries name e is in
    by_entry e other k.0 (subst (Reached active entries) (sym k.1) reached) there

needs-there : (o : Option EntryParts) (e : EntryParts) (other : List ℕ) → o ≡ Some e → Contains e.dependencies other → Contains (needs_of o) other
needs-there o e other is there = subst (λ (p : Option EntryParts). Contains (needs_of p) other) (sym is) there

-- one more name
pub IsFollowed-next : (active : List RequirementParts) (entries : List EntryParts) (names new : List (List ℕ)) (followed : ℕ) → followed < length names
    → IsFollowed active entries names followed → IsGrown names new (needs_of (entry_on entries (get_or names followed []))) → IsFollowed active entries new (followed + 1)
IsFollowed-next active entries names new followed within is g =
    let here = get_or names followed [] in
    let size : length new ≡ length names + length g.more = ap length g.whole ∙ length-append names g.more in
    let front : take (followed + 1) new ≡ take (followed + 1) names = ap (take (followed + 1)) g.whole ∙ take-append-le (followed + 1) names g.more (omega arith) in
    let one : take (followed + 1) names ≡ take followed names ++ here ∷ [] = take_more names followed [] within in
    record {
      within = omega arith;
      sound = λ name there. elim (Contains-append_cases names g.more name (subst (λ (l : List (List ℕ)). Contains l name) g.whole there)) [
        | inl old ↦ is.sound name old
        | inr more ↦ needs-reached active entries here (entry_on entries here) refl (is.sound here (Contains-get_or names followed [] within)) name (g.from name more)
      ];
      asked = λ wanted there. kept-grown names new _ g wanted.name (is.asked wanted there);
      closed = λ name e other there found depends. elim (Contains-append_cases (take followed names) (here ∷ []) name (subst (λ (l : List (List ℕ)). Contains l name) (front ∙ one) there)) [
        | inl old ↦ kept-grown names new _ g other (is.closed name e other old found depends)
        | inr last ↦ elim (Contains-cons_cases here [] name last) [
          | inl same ↦ g.all other (needs-there (entry_on entries here) e other (ap (entry_on entries) same ∙ found) depends)
          | inr none ↦ absurd (Contains-nil name none)
        ]
      ];
    }

-- what is reached is among names that were all followed
all-reached : (active : List RequirementParts) (entries : List EntryParts) (names : List (List ℕ)) → are_entries entries ≡ true → IsFollowed active entries names (length names)
    → (name : List ℕ) → Reached active entries name → Contains names name
all-reached active entries names rise is _ (by_line wanted there) = is.asked wanted there
all-reached active entries names rise is _ (by_entry e name there reached depends) =
    let own = all-reached active entries names rise is e.name reached in
    is.closed e.name e name (subst (λ (l : List (List ℕ)). Contains l e.name) (sym (take-length names)) own) (entry-there entries e rise there) depends

pub AreReached-from : (active : List RequirementParts) (entries : List EntryParts) (names : List (List ℕ)) (followed : ℕ) → are_entries entries ≡ true → length names ≤ followed
    → IsFollowed active entries names followed → AreReached active entries names
AreReached-from active entries names followed rise past is =
    let within = is.within in
    let end : followed ≡ length names = omega arith in
    let done : IsFollowed active entries names (length names) = subst (IsFollowed active entries names) end is in
    record { sound = is.sound; whole = all-reached active entries names rise done }

each-reached : (active : List RequirementParts) (all entries : List EntryParts) (names : List (List ℕ)) → AreReached active all names
    → (AllByRecursion (λ e. Contains names e.name) entries → AllByRecursion (λ e. Reached active all e.name) entries) × (AllByRecursion (λ e. Reached active all e.name) entries → AllByRecursion (λ e. Contains names e.name) entries)
each-reached active all [] names are = ((λ h. tt), (λ h. tt))
each-reached active all (e ∷ rest) names are =
    let more = each-reached active all rest names are in
    ((λ h. (are.sound e.name h.0, more.0 h.1)), (λ h. (are.whole e.name h.0, more.1 h.1)))

-- all entries are reached just where their names are among those
pub reached-alike : (active : List RequirementParts) (entries : List EntryParts) (names : List (List ℕ)) → AreReached active entries names
    → (AllByRecursion (λ e. Contains names e.name) entries → AllByRecursion (λ e. Reached active entries e.name) entries) × (AllByRecursion (λ e. Reached active entries e.name) entries → AllByRecursion (λ e. Contains names e.name) entries)
reached-alike active entries names are = each-reached active entries entries names are

-- ---- names that stand once

-- with a name that isn't there
pub once-pushed : (names : List (List ℕ)) (name : List ℕ) → AllPairs (λ x y. x ≢ y) names → (Contains names name → ⊥) → AllPairs (λ x y. x ≢ y) (names ++ name ∷ [])
once-pushed names name apart fresh = all_pairs_push (λ x y. x ≢ y) names name apart (λ k d within e. fresh (k, within, get_or-any names k name d within ∙ e))

-- no list that has them is shorter
pub once-few : (names : List (List ℕ)) → AllPairs (λ x y. x ≢ y) names → IsOnce names
once-few names apart = λ others within.
    let laws : IsEquivalence (eq_by_cmp (slice_cmp nat_cmp)) = eq_by_cmp_equiv nat_list_cmp_total in
    length-le_from_is_member laws names others (IsDistinct-from_AllPairs name-decides names apart)
    (λ name there. list_any-from_Contains laws name others (within name (Contains-from_any (λ x y h. (name-decides x y).0 h) name names there)))
  where
    name-decides : (x y : List ℕ) → Decides (eq_by_cmp (slice_cmp nat_cmp) x y) (x ≡ y)
    name-decides x y = subst (λ b. Decides b (x ≡ y)) (sym (is_eq-slice_cmp x y)) (bytes_eq-Decides x y)

-- a name that is reached is one that a requirement or an entry names
pub reached-met : (active : List RequirementParts) (entries : List EntryParts) (name : List ℕ) → Reached active entries name → Contains (names_met active entries) name
reached-met active entries _ (by_line wanted there) =
    Contains-append_left (map (λ w. w.name) active) (flat_map (λ e. e.dependencies) entries) wanted.name (Contains-map_of (λ w. w.name) active wanted there)
reached-met active entries _ (by_entry e name there reached asked) =
    Contains-append_right (map (λ w. w.name) active) (flat_map (λ e. e.dependencies) entries) name (Contains-flat_map_of (λ e. e.dependencies) entries e name there asked)
