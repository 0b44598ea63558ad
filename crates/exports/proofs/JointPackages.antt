-- Which packages are taken where the marker of a target holds.
use Rattle.std.proofs.Common.{◌≡◌, ◌∙◌, ◌⊎◌, inl, inr, ℕ, true, List, [], Option, Some, None, Ok, Contains, refl, ap, sym, subst}
use Rattle.std.specs.List.{AllByRecursion, flat_map}
use Rattle.std.specs.Prelude.{◌↔◌}
use Rattle.lists.proofs.Members.{Contains-flat_map, Contains-flat_map_of, Contains-map, Contains-map_of, Contains-nil}
use Rattle.markers.specs.Environment.{IsEnvironment, Texts}
use Rattle.markers.specs.Marker.{Tree, holds, marker_of}
use Rattle.pylock.specs.Packages.{EntryParts}
use Rattle.pylock.specs.declared.joint.JointPackage.{JointPackage}
use Rattle.snapshot.specs.Packages.{Index}
use Rattle.states.proofs.PartFacts.{All-member, All-of}
use Rattle.exports.specs.Conditions.{IsMarkerOf, MeetsAll}
use Rattle.exports.specs.Joint.{Fit, Takes, TakesExactly, is_held, is_taken}
use Rattle.exports.specs.Questions.{AnswerOneApart}
use Rattle.exports.specs.Tied.Covers.{IsCover}
use Rattle.exports.specs.Tied.JointPackages.{AreMarkersWith, HasEntry, HoldsOf, IsJoined, IsMarked, IsPackageOf, entries_in}
use Rattle.exports.specs.Tied.Told.{told}
use Rattle.exports.specs.declared.condition.Condition.{Condition}
use Rattle.exports.specs.declared.cover.Cover.{Cover}
use Rattle.exports.proofs.ToldAlternatives.{HoldsOne, IsRow, alternatives-held, row-of}
use Rattle.exports.proofs.ToldConditions.{all-quotable, conditions-told, relations-there}
use Rattle.exports.proofs.ToldMarkers.{ReadsAsSpelled}

-- covers of one list of lines that fit with one another
pub record AreFitting (lines : List (List ℕ)) (index : Index) (covers : List Cover) : Type 0 where
  pub covers_are : AllByRecursion (IsCover lines index) covers
  pub fit : (one other : Cover) → Contains covers one → Contains covers other → Fit lines index one.target other.target

pub cover-of : (lines : List (List ℕ)) (index : Index) (covers : List Cover) → AreFitting lines index covers → (cover : Cover) → Contains covers cover → IsCover lines index cover
cover-of lines index covers f cover there = All-member (IsCover lines index) covers cover f.covers_are there

-- no environment meets the conditions of both
abbrev pub AreApart : Cover → Cover → Type 0
AreApart one other = (e : Texts) → MeetsAll one.target.environment e one.conditions → MeetsAll other.target.environment e other.conditions → ⊥

-- who meets the conditions of both answers each question as both do
apart-of : (lines : List (List ℕ)) (index : Index) (one other : Cover) → IsCover lines index one → IsCover lines index other → AnswerOneApart lines index one.target.environment other.target.environment → AreApart one other
apart-of lines index one other k l apart e met has = apart.differ (k.answers e met apart.question apart.counts ∙ sym (l.answers e has apart.question apart.counts))

pub fit-of : (lines : List (List ℕ)) (index : Index) (covers : List Cover) → AreFitting lines index covers → (one other : Cover) → Contains covers one → Contains covers other
    → AreApart one other ⊎ (entries_in one ≡ entries_in other)
fit-of lines index covers f one other here there = elim (f.fit one other here there) [
  | inl same ↦ inr same
  | inr apart ↦ inl (apart-of lines index one other (cover-of lines index covers f one here) (cover-of lines index covers f other there) apart)
]

-- ---- one target's marker

-- of two covers that are apart, where the other's own environment meets its conditions, the one has conditions
pub apart-some : (lines : List (List ℕ)) (index : Index) (one other : Cover) → IsCover lines index other → AreApart one other → one.conditions ≡ [] → ⊥
apart-some lines index one other is apart none =
    apart other.target.environment (subst (MeetsAll one.target.environment other.target.environment) (sym none) tt) is.own

pub marker-is : ReadsAsSpelled → (lines : List (List ℕ)) (index : Index) (cover : Cover) → IsCover lines index cover → (cover.conditions ≡ [] → ⊥) → IsMarkerOf cover.target.environment cover.conditions cover.marker
marker-is found lines index cover is some =
    subst (IsMarkerOf cover.target.environment cover.conditions) (sym is.told) (conditions-told found cover.target.environment is.lawful cover.conditions is.tellable some)

pub marker-row : (lines : List (List ℕ)) (index : Index) (cover : Cover) → IsCover lines index cover → (cover.conditions ≡ [] → ⊥) → IsRow cover.marker
marker-row lines index cover is some =
    row-of (flat_map (told cover.target.environment) cover.conditions) (relations-there cover.target.environment cover.conditions some)
    (all-quotable cover.target.environment is.lawful cover.conditions is.tellable) cover.marker is.told

-- a marker of conditions holds in exactly the environments that meet them
held-exactly : (environment : Texts) (conditions : List Condition) (text : List ℕ) → IsMarkerOf environment conditions text → (other : Texts) → IsEnvironment other
    → (is_held other (marker_of text) ≡ true) ↔ MeetsAll environment other conditions
held-exactly environment conditions text m other lawful =
    let read : is_held other (marker_of text) ≡ holds m.marker other None = ap (is_held other) m.reads in
    let exact = m.exact other None lawful in (
      λ h. exact.0 (sym read ∙ h),
      λ h. read ∙ exact.1 h,
    )

-- so does the marker that was read of it
pub read-exactly : (environment : Texts) (conditions : List Condition) (text : List ℕ) (marker : Tree) → IsMarkerOf environment conditions text → marker_of text ≡ Ok marker → (other : Texts) → IsEnvironment other
    → (holds marker other None ≡ true) ↔ MeetsAll environment other conditions
read-exactly environment conditions text marker m read other lawful =
    let exact = held-exactly environment conditions text m other lawful in
    let held : is_held other (marker_of text) ≡ holds marker other None = ap (is_held other) read in (
      λ h. exact.0 (held ∙ h),
      λ h. sym held ∙ exact.1 h,
    )

-- ---- an entry that not all targets have

-- a target that has it has conditions: it doesn't fit with the one that lacks it otherwise
holder-some : (lines : List (List ℕ)) (index : Index) (covers : List Cover) → AreFitting lines index covers → (e : EntryParts) (cover other : Cover) → Contains covers cover → Contains covers other
    → HasEntry cover e → (HasEntry other e → ⊥) → cover.conditions ≡ [] → ⊥
holder-some lines index covers f e cover other here there has lacks none = elim (fit-of lines index covers f cover other here there) [
  | inl apart ↦ apart-some lines index cover other (cover-of lines index covers f other there) apart none
  | inr same ↦ lacks (subst (λ (entries : List EntryParts). Contains entries e) same has)
]

joined-rows : (lines : List (List ℕ)) (index : Index) (covers : List Cover) → AreFitting lines index covers → (e : EntryParts) (text : List ℕ) → (j : IsJoined covers e text) → AllByRecursion IsRow j.texts
joined-rows lines index covers f e text j =
    All-of IsRow j.texts (λ t there.
    let m = (j.are t).0 there in
    subst IsRow m.marker
    (marker-row lines index m.cover (cover-of lines index covers f m.cover m.there) (holder-some lines index covers f e m.cover j.lacks.0 m.there j.lacks.1 m.has j.lacks.2)))

-- where a target has it there is a marker
some-texts : (covers : List Cover) (e : EntryParts) (texts : List (List ℕ)) → AreMarkersWith covers e texts → (cover : Cover) → Contains covers cover → HasEntry cover e → texts ≡ [] → ⊥
some-texts covers e texts are cover there has none =
    Contains-nil cover.marker (subst (λ (ts : List (List ℕ)). Contains ts cover.marker) none ((are cover.marker).1 (record { cover = cover; there = there; has = has; marker = refl })))

-- some target whose conditions are met has it
abbrev MeetsHolder : List Cover → EntryParts → Texts → Type 0
MeetsHolder covers e other = (cover : Cover) × Contains covers cover × HasEntry cover e × MeetsAll cover.target.environment other cover.conditions

joined-held : ReadsAsSpelled → (lines : List (List ℕ)) (index : Index) (covers : List Cover) → AreFitting lines index covers → (e : EntryParts) (text : List ℕ) → IsJoined covers e text
    → (cover : Cover) → Contains covers cover → HasEntry cover e → (other : Texts) → IsEnvironment other → is_held other (marker_of text) ≡ true → MeetsHolder covers e other
joined-held found lines index covers f e text j holder there has other lawful h =
    let some : (j.texts ≡ [] → ⊥) = some-texts covers e j.texts j.are holder there has in
    let one : HoldsOne other j.texts = (alternatives-held found j.texts some (joined-rows lines index covers f e text j) other).0 (ap (λ (t : List ℕ). is_held other (marker_of t)) (sym j.told) ∙ h) in
    let m = (j.are one.0).0 one.1 in
    let is = cover-of lines index covers f m.cover m.there in
    let conditions_there = holder-some lines index covers f e m.cover j.lacks.0 m.there j.lacks.1 m.has j.lacks.2 in
    let exact = held-exactly m.cover.target.environment m.cover.conditions m.cover.marker (marker-is found lines index m.cover is conditions_there) other lawful in
    (m.cover, m.there, m.has, exact.0 (ap (λ (t : List ℕ). is_held other (marker_of t)) m.marker ∙ one.2))

held-joined : ReadsAsSpelled → (lines : List (List ℕ)) (index : Index) (covers : List Cover) → AreFitting lines index covers → (e : EntryParts) (text : List ℕ) → IsJoined covers e text
    → (other : Texts) → IsEnvironment other → MeetsHolder covers e other → is_held other (marker_of text) ≡ true
held-joined found lines index covers f e text j other lawful h =
    let there : Contains j.texts h.0.marker = (j.are h.0.marker).1 (record { cover = h.0; there = h.1; has = h.2; marker = refl }) in
    let some : (j.texts ≡ [] → ⊥) = some-texts covers e j.texts j.are h.0 h.1 h.2 in
    let is = cover-of lines index covers f h.0 h.1 in
    let conditions_there = holder-some lines index covers f e h.0 j.lacks.0 h.1 j.lacks.1 h.2 j.lacks.2 in
    let exact = held-exactly h.0.target.environment h.0.conditions h.0.marker (marker-is found lines index h.0 is conditions_there) other lawful in
    ap (λ (t : List ℕ). is_held other (marker_of t)) j.told
    ∙ (alternatives-held found j.texts some (joined-rows lines index covers f e text j) other).1 (h.0.marker, there, exact.1 h.3)

-- ---- what is taken

pub takes-exactly : ReadsAsSpelled → (lines : List (List ℕ)) (index : Index) (covers : List Cover) → AreFitting lines index covers → (packages : List JointPackage) → HoldsOf covers packages
    → (cover : Cover) → Contains covers cover → (other : Texts) → IsEnvironment other → MeetsAll cover.target.environment other cover.conditions → TakesExactly other packages (entries_in cover)
takes-exactly found lines index covers f packages h cover there other lawful met e = (λ t. from t, λ has. to has)
  where
    -- the target has what a target has whose conditions are met too
    shared : (x : EntryParts) → MeetsHolder covers x other → HasEntry cover x
    shared x m = elim (fit-of lines index covers f m.0 cover m.1 there) [
      | inl apart ↦ absurd (apart other m.3 met)
      | inr same ↦ subst (λ (entries : List EntryParts). Contains entries x) same m.2
    ]

    taken-has : (p : JointPackage) (marker : Option (List ℕ)) → Contains packages p → p.marker ≡ marker → IsMarked covers p.entry marker → is_taken other p ≡ true → HasEntry cover p.entry
    taken-has p None among is all taken = All-member (λ (c : Cover). HasEntry c p.entry) covers cover all there
    taken-has p (Some text) among is j taken =
        let holder = Contains-flat_map entries_in covers p.entry ((h.members p.entry).1 (Contains-map_of (λ (x : JointPackage). x.entry) packages p among)) in
        shared p.entry (joined-held found lines index covers f p.entry text j holder.0 holder.1 holder.2 other lawful (rw is at taken))

    from : Takes other packages e → Contains (entries_in cover) e
    from t = let marked = (All-member (IsPackageOf covers) packages t.chosen h.lawful t.there).marked in
        subst (HasEntry cover) t.entry (taken-has t.chosen t.chosen.marker t.there refl marked t.taken)

    has-taken : (p : JointPackage) (marker : Option (List ℕ)) → p.marker ≡ marker → IsMarked covers p.entry marker → HasEntry cover p.entry → is_taken other p ≡ true
    has-taken p None is all has = rw is refl
    has-taken p (Some text) is j has = rw is (held-joined found lines index covers f p.entry text j other lawful (cover, there, has, met))

    to : Contains (entries_in cover) e → Takes other packages e
    to has =
        let k = Contains-map (λ (p : JointPackage). p.entry) packages e ((h.members e).0 (Contains-flat_map_of entries_in covers cover e there has)) in
        let marked = (All-member (IsPackageOf covers) packages k.0 h.lawful k.1).marked in
        record { chosen = k.0; there = k.1; taken = has-taken k.0 k.0.marker refl marked (subst (HasEntry cover) (sym k.2) has); entry = k.2 }
