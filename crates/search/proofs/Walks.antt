-- The walk through needed nodes, and what is known of it from before.
use Rattle.std.proofs.Common.{ℕ, zero, suc, List, [], ◌∷◌, ◌++◌, ◌≡◌, ◌≢◌, ◌<◌, ◌≤◌, ◌+◌, inl, inr, Contains, length, get_or, take, refl, sym, ◌∙◌, ap, subst, arith, Some, None, Option, add-one, length-append, append_assoc}
use Rattle.std.proofs.lemmas.List.Elements.{Contains-append_left}
use Rattle.lists.proofs.Members.{Contains-here, Contains-there, Contains-nil, Contains-take_suc, Contains-take_zero, take-whole}
use Rattle.search.proofs.Nodes.{required-to, linked-needed, take-front, closing-start, closing-step, closing-end}
use Rattle.search.proofs.PinnedMaps.{Needed-more}
use Rattle.search.specs.declared.parts.KnownBefore.{KnownBefore}
use Rattle.search.specs.Tied.Front.{IsRequiring, IsFollowed}
use Rattle.search.specs.Tied.Nodes.{Extends, Grows, nodes_required, nodes_linked, wants_linked}
use Rattle.search.specs.Rules.{Rules}
use Rattle.search.specs.FirstWalk.{IsRequired}
use Rattle.search.specs.Tied.Search.{AreNeeded, AreRequired}
use Rattle.search.specs.Solutions.{Needed, by_line}

grows-kept : (old new wanted : List ℕ) → Grows old new wanted → (node : ℕ) → Contains old node → Contains new node
grows-kept old new wanted g node h = subst (λ xs. Contains xs node) (sym g.extended) (Contains-append_left old g.more node h)

grows-front : (old new wanted : List ℕ) (k : ℕ) → Grows old new wanted → k ≤ length old → take k new ≡ take k old
grows-front old new wanted k g l = ap (take k) g.extended ∙ take-front old g.more k l

pub extends-then : (old mid new : List ℕ) → Extends old mid → Extends mid new → Extends old new
extends-then old mid new g h = (g.0 ++ h.0, h.1 ∙ ap (λ xs. xs ++ h.0) g.1 ∙ append_assoc old g.0 h.0)

pub extends-front : (old new : List ℕ) (k : ℕ) → Extends old new → k ≡ length old → take k new ≡ old
extends-front old new k h e = ap (take k) h.1 ∙ take-front old h.0 k (omega arith) ∙ take-whole old k (omega arith)

wanted-required : (rules : Rules ℕ ℕ ℕ ℕ) (chosen : ℕ → Option ℕ) (link r : ℕ) (o : Option ℕ) → chosen (rules.on link) ≡ o → Needed rules chosen link → Contains (wants_linked rules link o) r → IsRequired rules chosen r
wanted-required rules chosen link r None e n h = absurd (Contains-nil r h)
wanted-required rules chosen link r (Some v) e n h = inr (link, v, n, e, h)

-- one node more is followed
requiring-step : (rules : Rules ℕ ℕ ℕ ℕ) (chosen : ℕ → Option ℕ) (nodes new required more : List ℕ) (at link : ℕ) → Needed rules chosen link → IsRequiring rules chosen nodes required at → at < length nodes → link ≡ get_or nodes at link → Grows nodes new (nodes_linked rules link (chosen (rules.on link))) → Grows required more (wants_linked rules link (chosen (rules.on link))) → IsRequiring rules chosen new more (at + 1)
requiring-step rules chosen nodes new required more at link n c l is g k = record {
  sound = λ r h. elim (k.only r h) [ inl a ↦ c.sound r a | inr b ↦ wanted-required rules chosen link r (chosen (rules.on link)) refl n b ];
  lines = λ r h. grows-kept required more (wants_linked rules link (chosen (rules.on link))) k r (c.lines r h);
  wanted = λ other r h i.
      let j : Contains (take (suc at) nodes) other = subst (λ xs. Contains xs other) (grows-front nodes new (nodes_linked rules link (chosen (rules.on link))) (suc at) g l) (rw add-one at h) in
      elim (Contains-take_suc nodes at link other l j) [
        | inl a ↦ grows-kept required more (wants_linked rules link (chosen (rules.on link))) k r (c.wanted other r a i)
        | inr b ↦ k.added r (subst (λ m. Contains (wants_linked rules m (chosen (rules.on m))) r) (sym (is ∙ b)) i)
      ];
}

pub followed-step : (rules : Rules ℕ ℕ ℕ ℕ) (chosen : ℕ → Option ℕ) (nodes new required more : List ℕ) (known_before : KnownBefore) (at link : ℕ) → IsFollowed rules chosen nodes required known_before at → at < length nodes → link ≡ get_or nodes at link → Grows nodes new (nodes_linked rules link (chosen (rules.on link))) → Grows required more (wants_linked rules link (chosen (rules.on link))) → IsFollowed rules chosen new more known_before (at + 1)
followed-step rules chosen nodes new required more known_before at link h l is g k =
    let e = ap length g.extended in
    let w = h.within in
    let front : take known_before.nodes new ≡ take known_before.nodes nodes = grows-front nodes new (nodes_linked rules link (chosen (rules.on link))) known_before.nodes g h.within in
    record {
      closing = closing-step rules chosen nodes new at link h.closing l is g;
      requiring = requiring-step rules chosen nodes new required more at link (h.closing.sound link (at, l, sym is)) h.requiring l is g k;
      within = omega (arith, e, w, length-append nodes g.more);
      linked = λ other node i d j. grows-kept nodes new (nodes_linked rules link (chosen (rules.on link))) g node (h.linked other node (subst (λ xs. Contains xs other) front i) d j);
      wanted = λ other r i d j. grows-kept required more (wants_linked rules link (chosen (rules.on link))) k r (h.wanted other r (subst (λ xs. Contains xs other) front i) d j);
    }

Contains-take_at : (xs : List ℕ) (k at d : ℕ) → at < k → k ≤ length xs → Contains (take k xs) (get_or xs at d)
Contains-take_at [] k at d a l = absurd (omega arith)
Contains-take_at (x ∷ xs) zero at d a l = absurd (omega arith)
Contains-take_at (x ∷ xs) (suc k) zero d a l = Contains-here x (take k xs)
Contains-take_at (x ∷ xs) (suc k) (suc at) d a l = Contains-there x (take k xs) (get_or xs at d) (Contains-take_at xs k at d (omega arith) (omega arith))

-- a node that was known on another name needn't be followed
pub followed-skip : (rules : Rules ℕ ℕ ℕ ℕ) (chosen : ℕ → Option ℕ) (nodes required : List ℕ) (known_before : KnownBefore) (at link : ℕ) → IsFollowed rules chosen nodes required known_before at → at < length nodes → link ≡ get_or nodes at link → at < known_before.nodes → rules.on link ≢ known_before.last_taken → IsFollowed rules chosen nodes required known_before (at + 1)
followed-skip rules chosen nodes required known_before at link h l is low d =
    let there : Contains (take known_before.nodes nodes) link = subst (λ n. Contains (take known_before.nodes nodes) n) (sym is) (Contains-take_at nodes known_before.nodes at link low h.within) in
    record {
      closing = record {
        sound = h.closing.sound;
        lines = h.closing.lines;
        linked = λ other node i j. elim (Contains-take_suc nodes at link other l (rw add-one at i)) [
          | inl a ↦ h.closing.linked other node a j
          | inr b ↦ h.linked link node there d (subst (λ n. Contains (nodes_linked rules n (chosen (rules.on n))) node) (sym (is ∙ b)) j)
        ];
      };
      requiring = record {
        sound = h.requiring.sound;
        lines = h.requiring.lines;
        wanted = λ other r i j. elim (Contains-take_suc nodes at link other l (rw add-one at i)) [
          | inl a ↦ h.requiring.wanted other r a j
          | inr b ↦ h.wanted link r there d (subst (λ n. Contains (wants_linked rules n (chosen (rules.on n))) r) (sym (is ∙ b)) j)
        ];
      };
      within = h.within;
      linked = h.linked;
      wanted = h.wanted;
    }

-- the walk begins with the lines alone
pub followed-start : (rules : Rules ℕ ℕ ℕ ℕ) (chosen : ℕ → Option ℕ) (nodes required : List ℕ) (known_before : KnownBefore) → known_before.nodes ≡ 0 → Grows [] nodes (nodes_required rules rules.lines) → Grows [] required rules.lines → IsFollowed rules chosen nodes required known_before 0
followed-start rules chosen nodes required known_before none g k = record {
  closing = closing-start rules chosen nodes g;
  requiring = record {
    sound = λ r h. elim (k.only r h) [ inl a ↦ absurd (Contains-nil r a) | inr b ↦ inl b ];
    lines = k.added;
    wanted = λ link r h i. absurd (Contains-take_zero nodes link h);
  };
  within = omega arith;
  linked = λ link node i d j. absurd (Contains-take_zero nodes link (subst (λ n. Contains (take n nodes) link) none i));
  wanted = λ link r i d j. absurd (Contains-take_zero nodes link (subst (λ n. Contains (take n nodes) link) none i));
}

-- or with all that was known before one name was taken
pub followed-more : (rules : Rules ℕ ℕ ℕ ℕ) (old new : ℕ → Option ℕ) (nodes required : List ℕ) (known_before : KnownBefore) → known_before.nodes ≡ length nodes → AreNeeded rules old nodes → AreRequired rules old required → ((n v : ℕ) → old n ≡ Some v → new n ≡ Some v) → ((n : ℕ) → n ≢ known_before.last_taken → new n ≡ old n) → IsFollowed rules new nodes required known_before 0
followed-more rules old new nodes required known_before count a b more others =
    let known : (link : ℕ) → Contains (take known_before.nodes nodes) link → Contains nodes link = λ link i. subst (λ xs. Contains xs link) (take-whole nodes known_before.nodes (omega arith)) i in
    record {
      closing = record {
        sound = λ node h. Needed-more rules old new more node (a.sound node h);
        lines = λ node h. let k : (r : ℕ) × Contains rules.lines r × Contains (rules.nodes r) node = required-to rules rules.lines node h in a.whole node (by_line k.0 node k.1 k.2);
        linked = λ link node h i. absurd (Contains-take_zero nodes link h);
      };
      requiring = record {
        sound = λ r h. elim (b.sound r h) [ inl l ↦ inl l | inr k ↦ inr (k.0, k.1, Needed-more rules old new more k.0 k.2, more (rules.on k.0) k.1 k.3, k.4) ];
        lines = λ r h. b.whole r (inl h);
        wanted = λ link r h i. absurd (Contains-take_zero nodes link h);
      };
      within = omega arith;
      linked = λ link node i d j. a.whole node (linked-needed rules old link node (old (rules.on link)) refl (a.sound link (known link i)) (subst (λ o. Contains (nodes_linked rules link o) node) (others (rules.on link) d) j));
      wanted = λ link r i d j. b.whole r (wanted-required rules old link r (old (rules.on link)) refl (a.sound link (known link i)) (subst (λ o. Contains (wants_linked rules link o) r) (others (rules.on link) d) j));
    }

pub followed-needed : (rules : Rules ℕ ℕ ℕ ℕ) (chosen : ℕ → Option ℕ) (nodes required : List ℕ) (known_before : KnownBefore) (at : ℕ) → IsFollowed rules chosen nodes required known_before at → length nodes ≤ at → AreNeeded rules chosen nodes
followed-needed rules chosen nodes required known_before at h l = closing-end rules chosen nodes at h.closing l

pub followed-required : (rules : Rules ℕ ℕ ℕ ℕ) (chosen : ℕ → Option ℕ) (nodes required : List ℕ) (known_before : KnownBefore) (at : ℕ) → IsFollowed rules chosen nodes required known_before at → length nodes ≤ at → AreRequired rules chosen required
followed-required rules chosen nodes required known_before at h l =
    let n : AreNeeded rules chosen nodes = closing-end rules chosen nodes at h.closing l in
    record {
      sound = h.requiring.sound;
      whole = λ r k. elim k [
        | inl i ↦ h.requiring.lines r i
        | inr i ↦ h.requiring.wanted i.0 r (subst (λ xs. Contains xs i.0) (sym (take-whole nodes at l)) (n.whole i.0 i.2)) (subst (λ o. Contains (wants_linked rules i.0 o) r) (sym i.3) i.4)
      ];
    }
