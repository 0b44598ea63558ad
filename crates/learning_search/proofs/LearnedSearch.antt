-- The choices of a search that learns are those of a plain one.
use Rattle.std.proofs.Common.{ℕ, List, [], ◌∷◌, ◌++◌, ◌≡◌, ◌⊎◌, inl, inr, Contains, take, refl, sym, ◌∙◌, ap, subst, Some, Option, Bool, true, false, append_assoc, append-nil}
use Rattle.std.proofs.lemmas.List.Elements.{Contains-append_left, Contains-push}
use Rattle.search.proofs.PlacesEquality.{eq-itself, places-equality}
use Rattle.lists.proofs.Members.{Contains-cons_cases, Contains-nil}
use Rattle.search.proofs.Refutations.{list-excluded}
use Rattle.search.proofs.Stack.{search-best}
use Rattle.search.proofs.PinnedMaps.{some-inj, Needed-more, version_pinned-last, Has-front}
use Rattle.search.specs.declared.conflict.NodeChoice.{NodeChoice}
use Rattle.search.specs.declared.parts.Frame.{Frame}
use Rattle.learning_search.specs.declared.assignment.Assignment.{Assignment}
use Rattle.learning_search.specs.declared.candidate_queue.CandidateQueue.{CandidateQueue}
use Rattle.search.specs.Conflicts.{LiesIn, LiesInNone, EachFollows}
use Rattle.search.specs.FirstWalk.{IsComplete}
use Rattle.learning_search.specs.Tied.Gathering.{IsCompleted, decision}
use Rattle.search.specs.Table.{places_eq}
use Rattle.learning_search.specs.Tied.Learned.{decision_of, decisions_of, with_frame, frames_assigned, names_assigned, chosen_assigned, IsInTurn, IsCandidateQueue, ChoicesFit, LinesFit, IsAssignment, IsLearning}
use Rattle.search.specs.Rules.{Rules, IsLawful}
use Rattle.search.specs.Tied.Search.{pin_at, pins_of, IsFrame, IsSearch}
use Rattle.search.specs.Solutions.{Needed, by_line, by_dependency, IsNext, Has, Solution, IsBest}

-- ---- what is assigned, as pins

frame-append : (b : Bool) (rules : Rules ℕ ℕ ℕ ℕ) (h : Assignment) (fs gs : List Frame) → with_frame rules b h (fs ++ gs) ≡ with_frame rules b h fs ++ gs
frame-append true rules h fs gs = refl
frame-append false rules h fs gs = refl

pub frames-append : (rules : Rules ℕ ℕ ℕ ℕ) (hs gs : List Assignment) → frames_assigned rules (hs ++ gs) ≡ frames_assigned rules hs ++ frames_assigned rules gs
frames-append rules [] gs = refl
frames-append rules (h ∷ hs) gs = ap (with_frame rules h.queue.leads h) (frames-append rules hs gs) ∙ frame-append h.queue.leads rules h (frames_assigned rules hs) (frames_assigned rules gs)

pins-append : (fs gs : List Frame) → pins_of (fs ++ gs) ≡ pins_of fs ++ pins_of gs
pins-append [] gs = refl
pins-append (f ∷ fs) gs = ap (λ ps. pin_at f ∷ ps) (pins-append fs gs)

pub names-append : (rules : Rules ℕ ℕ ℕ ℕ) (hs gs : List Assignment) → names_assigned rules (hs ++ gs) ≡ names_assigned rules hs ++ names_assigned rules gs
names-append rules hs gs = ap pins_of (frames-append rules hs gs) ∙ pins-append (frames_assigned rules hs) (frames_assigned rules gs)

pub bool_is : (b : Bool) → (b ≡ true) ⊎ (b ≡ false)
bool_is true = inl refl
bool_is false = inr refl

-- ---- what is assigned lies in each solution that has it

pub record Lies (rules : Rules ℕ ℕ ℕ ℕ) (s : ℕ → Option ℕ) (c : NodeChoice ℕ ℕ) : Type 0 where
  pub needed : Needed rules s c.node
  pub chosen : s (rules.on c.node) ≡ Some c.version

pub lies-in : (rules : Rules ℕ ℕ ℕ ℕ) (s : ℕ → Option ℕ) (c : NodeChoice ℕ ℕ) → Lies rules s c → LiesIn rules places_eq s c
lies-in rules s c h = record { needed = h.needed; version = c.version; chosen = h.chosen; versions = eq-itself c.version }

assigned-lies : (rules : Rules ℕ ℕ ℕ ℕ) (law : IsLawful rules) (conflicts : List (List (NodeChoice ℕ ℕ))) (t : ℕ → Option ℕ) (before : List Assignment) (h : Assignment) → IsAssignment rules conflicts before h → Has rules t (names_assigned rules (before ++ h ∷ [])) → Lies rules t (decision_of h)
assigned-lies rules law conflicts t before h k has =
    let all : Has rules t (names_assigned rules before ++ pins_of (with_frame rules h.queue.leads h [])) = subst (λ ps. Has rules t ps) (names-append rules before (h ∷ [])) has in
    let low : Has rules t (names_assigned rules before) = Has-front rules t (names_assigned rules before) (pins_of (with_frame rules h.queue.leads h [])) all in
    record {
      needed = Needed-more rules (chosen_assigned rules before) t low h.queue.node k.queue.needed;
      chosen = elim (bool_is h.queue.leads) [
        | inl e ↦
            let next : IsNext rules (names_assigned rules before) (rules.on h.queue.node) = subst (λ b. IsInTurn rules (names_assigned rules before) h.queue.node b) e k.queue.in_turn in
            let whole : Has rules t (names_assigned rules before ++ record { name = rules.on h.queue.node; version = h.place } ∷ []) = subst (λ b. Has rules t (names_assigned rules before ++ pins_of (with_frame rules b h []))) e all in
            whole (rules.on h.queue.node) h.place (version_pinned-last rules.compare law.order (names_assigned rules before) (record { name = rules.on h.queue.node; version = h.place }) next.free)
        | inr e ↦
            let turn : (v : ℕ) × (chosen_assigned rules before (rules.on h.queue.node) ≡ Some v) = subst (λ b. IsInTurn rules (names_assigned rules before) h.queue.node b) e k.queue.in_turn in
            low (rules.on h.queue.node) turn.0 turn.1 ∙ ap (λ x. Some x) (k.fits.one_version turn.0 turn.1)
      ];
    }

step-assoc : (before : List Assignment) (h : Assignment) (hs : List Assignment) → before ++ h ∷ hs ≡ (before ++ h ∷ []) ++ hs
step-assoc before h hs = sym (append_assoc before (h ∷ []) hs)

pub all-lie : (rules : Rules ℕ ℕ ℕ ℕ) (law : IsLawful rules) (conflicts : List (List (NodeChoice ℕ ℕ))) (t : ℕ → Option ℕ) (before hs : List Assignment) → IsLearning rules conflicts before hs → Has rules t (names_assigned rules (before ++ hs)) → (c : NodeChoice ℕ ℕ) → Contains (decisions_of hs) c → Lies rules t c
all-lie rules law conflicts t before [] k has c i = absurd (Contains-nil c i)
all-lie rules law conflicts t before (h ∷ hs) k has c i =
    let moved : Has rules t (names_assigned rules ((before ++ h ∷ []) ++ hs)) = subst (λ xs. Has rules t (names_assigned rules xs)) (step-assoc before h hs) has in
    elim (Contains-cons_cases (decision_of h) (decisions_of hs) c i) [
      | inl e ↦ subst (λ d. Lies rules t d) e (assigned-lies rules law conflicts t before h k.0
          (Has-front rules t (names_assigned rules (before ++ h ∷ [])) (names_assigned rules hs) (subst (λ ps. Has rules t ps) (names-append rules (before ++ h ∷ []) hs) moved)))
      | inr r ↦ all-lie rules law conflicts t (before ++ h ∷ []) hs k.1 moved c r
    ]

-- what is assigned lies in the map that it makes
pub assigned-lie : (rules : Rules ℕ ℕ ℕ ℕ) (law : IsLawful rules) (conflicts : List (List (NodeChoice ℕ ℕ))) (hs : List Assignment) → IsLearning rules conflicts [] hs → (c : NodeChoice ℕ ℕ) → Contains (decisions_of hs) c → Lies rules (chosen_assigned rules hs) c
assigned-lie rules law conflicts hs l c i = all-lie rules law conflicts (chosen_assigned rules hs) [] hs l (λ n v e. e) c i

pub IsLearning-push : (rules : Rules ℕ ℕ ℕ ℕ) (conflicts : List (List (NodeChoice ℕ ℕ))) (before hs : List Assignment) (h : Assignment) → IsLearning rules conflicts before hs → IsAssignment rules conflicts (before ++ hs) h → IsLearning rules conflicts before (hs ++ h ∷ [])
IsLearning-push rules conflicts before [] h a b = (subst (λ xs. IsAssignment rules conflicts xs h) (append-nil before) b, tt)
IsLearning-push rules conflicts before (g ∷ hs) h a b = (a.0, IsLearning-push rules conflicts (before ++ g ∷ []) hs h a.1 (subst (λ xs. IsAssignment rules conflicts xs h) (step-assoc before g hs) b))

pub IsLearning-pop : (rules : Rules ℕ ℕ ℕ ℕ) (conflicts : List (List (NodeChoice ℕ ℕ))) (before hs : List Assignment) (h : Assignment) → IsLearning rules conflicts before (hs ++ h ∷ []) → IsLearning rules conflicts before hs × IsAssignment rules conflicts (before ++ hs) h
IsLearning-pop rules conflicts before [] h k = (tt, subst (λ xs. IsAssignment rules conflicts xs h) (sym (append-nil before)) k.0)
IsLearning-pop rules conflicts before (g ∷ hs) h k =
    let r : IsLearning rules conflicts (before ++ g ∷ []) hs × IsAssignment rules conflicts ((before ++ g ∷ []) ++ hs) h = IsLearning-pop rules conflicts (before ++ g ∷ []) hs h k.1 in
    ((k.0, r.0), subst (λ xs. IsAssignment rules conflicts xs h) (sym (step-assoc before g hs)) r.1)

-- more conflicts don't hurt
pub queue-more : (rules : Rules ℕ ℕ ℕ ℕ) (conflicts more : List (List (NodeChoice ℕ ℕ))) (before : List Assignment) (queue : CandidateQueue) → IsCandidateQueue rules conflicts before queue → IsCandidateQueue rules (conflicts ++ more) before queue
queue-more rules conflicts more before queue k = record {
  in_turn = k.in_turn;
  needed = k.needed;
  by = k.by;
  free = k.free;
  blamed = k.blamed;
  refused = λ w i. let r : IsCompleted conflicts queue.blame.items (decision queue.node w) = k.refused w i in (r.0, Contains-append_left conflicts more r.0 r.1, r.2);
}

pub learning-more : (rules : Rules ℕ ℕ ℕ ℕ) (conflicts more : List (List (NodeChoice ℕ ℕ))) (before hs : List Assignment) → IsLearning rules conflicts before hs → IsLearning rules (conflicts ++ more) before hs
learning-more rules conflicts more before [] k = tt
learning-more rules conflicts more before (h ∷ hs) k = (
  record { queue = queue-more rules conflicts more before h.queue k.0.queue; turn = k.0.turn; place = k.0.place; fits = k.0.fits },
  learning-more rules conflicts more (before ++ h ∷ []) hs k.1,
)

-- ---- a search that learns is a search

-- a candidate that completes a recorded conflict is in no solution that has what is assigned
completes-refuted : (rules : Rules ℕ ℕ ℕ ℕ) (law : IsLawful rules) (conflicts : List (List (NodeChoice ℕ ℕ))) (t : ℕ → Option ℕ) (before : List Assignment) (queue : CandidateQueue) (w : ℕ) → ((old : List (NodeChoice ℕ ℕ)) → Contains conflicts old → LiesInNone rules places_eq old) → IsLearning rules conflicts [] before → IsCandidateQueue rules conflicts before queue → Contains (take queue.turn (rules.candidates (rules.on queue.node))) w → Solution rules t → Has rules t (names_assigned rules before) → t (rules.on queue.node) ≡ Some w → ⊥
completes-refuted rules law conflicts t before queue w excluded l k i sol has e =
    let r : IsCompleted conflicts queue.blame.items (decision queue.node w) = k.refused w i in
    excluded r.0 r.1 t sol (λ c j. lies-in rules t c (elim (r.2 c j) [
      | inl a ↦ all-lie rules law conflicts t [] before l has c (k.blamed c a)
      | inr b ↦ subst (λ d. Lies rules t d) b (record { needed = Needed-more rules (chosen_assigned rules before) t has queue.node k.needed; chosen = e })
    ]))

assigned-frame : (rules : Rules ℕ ℕ ℕ ℕ) (law : IsLawful rules) (conflicts : List (List (NodeChoice ℕ ℕ))) (before : List Assignment) (h : Assignment) → ((old : List (NodeChoice ℕ ℕ)) → Contains conflicts old → LiesInNone rules places_eq old) → IsLearning rules conflicts [] before → IsAssignment rules conflicts before h → h.queue.leads ≡ true → IsFrame rules (names_assigned rules before) (record { name = rules.on h.queue.node; place = h.place; turn = h.queue.turn })
assigned-frame rules law conflicts before h excluded l k leads = record {
  next = subst (λ b. IsInTurn rules (names_assigned rules before) h.queue.node b) leads k.queue.in_turn;
  turn = k.turn;
  place = k.place;
  refuted = λ t sol has w i e. completes-refuted rules law conflicts t before h.queue w excluded l k.queue i sol has e;
}

learned-search : (rules : Rules ℕ ℕ ℕ ℕ) (law : IsLawful rules) (conflicts : List (List (NodeChoice ℕ ℕ))) (before hs : List Assignment) → ((old : List (NodeChoice ℕ ℕ)) → Contains conflicts old → LiesInNone rules places_eq old) → IsLearning rules conflicts [] before → IsLearning rules conflicts before hs → IsSearch rules (names_assigned rules before) (frames_assigned rules hs)
learned-search rules law conflicts before [] excluded a b = tt
learned-search rules law conflicts before (h ∷ hs) excluded a b =
    let rest : IsSearch rules (names_assigned rules (before ++ h ∷ [])) (frames_assigned rules hs) = learned-search rules law conflicts (before ++ h ∷ []) hs excluded (IsLearning-push rules conflicts [] before h a b.0) b.1 in
    let moved : IsSearch rules (names_assigned rules before ++ pins_of (with_frame rules h.queue.leads h [])) (frames_assigned rules hs) = subst (λ ps. IsSearch rules ps (frames_assigned rules hs)) (names-append rules before (h ∷ [])) rest in
    elim (bool_is h.queue.leads) [
      | inl e ↦ subst (λ b. IsSearch rules (names_assigned rules before) (with_frame rules b h (frames_assigned rules hs))) (sym e)
          (assigned-frame rules law conflicts before h excluded a b.0 e, subst (λ b. IsSearch rules (names_assigned rules before ++ pins_of (with_frame rules b h [])) (frames_assigned rules hs)) e moved)
      | inr e ↦ subst (λ b. IsSearch rules (names_assigned rules before) (with_frame rules b h (frames_assigned rules hs))) (sym e)
          (subst (λ ps. IsSearch rules ps (frames_assigned rules hs)) (append-nil (names_assigned rules before)) (subst (λ b. IsSearch rules (names_assigned rules before ++ pins_of (with_frame rules b h [])) (frames_assigned rules hs)) e moved))
    ]

-- ---- the end of a search that learns

lines-fit : (rules : Rules ℕ ℕ ℕ ℕ) (conflicts : List (List (NodeChoice ℕ ℕ))) (before hs : List Assignment) → IsLearning rules conflicts before hs → (c : NodeChoice ℕ ℕ) → Contains (decisions_of hs) c → LinesFit rules c
lines-fit rules conflicts before [] k c i = absurd (Contains-nil c i)
lines-fit rules conflicts before (h ∷ hs) k c i = elim (Contains-cons_cases (decision_of h) (decisions_of hs) c i) [
  | inl e ↦ subst (λ d. LinesFit rules d) e k.0.fits.lines
  | inr r ↦ lines-fit rules conflicts (before ++ h ∷ []) hs k.1 c r
]

pub decisions-append : (hs gs : List Assignment) → decisions_of (hs ++ gs) ≡ decisions_of hs ++ decisions_of gs
decisions-append [] gs = refl
decisions-append (h ∷ hs) gs = ap (λ cs. decision_of h ∷ cs) (decisions-append hs gs)

pub before-more : (before : List Assignment) (h : Assignment) (c : NodeChoice ℕ ℕ) → Contains (decisions_of before) c → Contains (decisions_of (before ++ h ∷ [])) c
before-more before h c i = subst (λ cs. Contains cs c) (sym (decisions-append before (h ∷ []))) (Contains-append_left (decisions_of before) (decision_of h ∷ []) c i)

pub before-last : (before : List Assignment) (h : Assignment) → Contains (decisions_of (before ++ h ∷ [])) (decision_of h)
before-last before h = subst (λ cs. Contains cs (decision_of h)) (sym (decisions-append before (h ∷ []))) (Contains-push (decisions_of before) (decision_of h))

-- a choice among the later ones fits one before them, both ways
later-fit : (rules : Rules ℕ ℕ ℕ ℕ) (conflicts : List (List (NodeChoice ℕ ℕ))) (before hs : List Assignment) → IsLearning rules conflicts before hs → (c d : NodeChoice ℕ ℕ) → Contains (decisions_of before) c → Contains (decisions_of hs) d → ChoicesFit rules c d × ChoicesFit rules d c
later-fit rules conflicts before [] k c d i j = absurd (Contains-nil d j)
later-fit rules conflicts before (h ∷ hs) k c d i j = elim (Contains-cons_cases (decision_of h) (decisions_of hs) d j) [
  | inl e ↦ subst (λ x. ChoicesFit rules c x × ChoicesFit rules x c) e (k.0.fits.from c i, k.0.fits.to c i)
  | inr r ↦ later-fit rules conflicts (before ++ h ∷ []) hs k.1 c d (before-more before h c i) r
]

pairs-fit : (rules : Rules ℕ ℕ ℕ ℕ) (conflicts : List (List (NodeChoice ℕ ℕ))) (before hs : List Assignment) → IsLearning rules conflicts before hs → (c d : NodeChoice ℕ ℕ) → Contains (decisions_of hs) c → Contains (decisions_of hs) d → ChoicesFit rules c d
pairs-fit rules conflicts before [] k c d i j = absurd (Contains-nil d j)
pairs-fit rules conflicts before (h ∷ hs) k c d i j = elim (Contains-cons_cases (decision_of h) (decisions_of hs) c i) [
  | inl e ↦ elim (Contains-cons_cases (decision_of h) (decisions_of hs) d j) [
    | inl f ↦ subst (λ x. ChoicesFit rules c x) f (subst (λ x. ChoicesFit rules x (decision_of h)) e k.0.fits.own)
    | inr r ↦ (later-fit rules conflicts (before ++ h ∷ []) hs k.1 c d (subst (λ x. Contains (decisions_of (before ++ h ∷ [])) x) e (before-last before h)) r).0
  ]
  | inr q ↦ elim (Contains-cons_cases (decision_of h) (decisions_of hs) d j) [
    | inl f ↦ (later-fit rules conflicts (before ++ h ∷ []) hs k.1 d c (subst (λ x. Contains (decisions_of (before ++ h ∷ [])) x) f (before-last before h)) q).1
    | inr r ↦ pairs-fit rules conflicts (before ++ h ∷ []) hs k.1 c d q r
  ]
]

-- each needed node is assigned
abbrev pub AllAssigned : Rules ℕ ℕ ℕ ℕ → List Assignment → Type 0
AllAssigned rules hs = (node : ℕ) → Needed rules (chosen_assigned rules hs) node → (v : ℕ) × Contains (decisions_of hs) (decision node v)

-- where each needed node is assigned, all that is required is met
learned-complete : (rules : Rules ℕ ℕ ℕ ℕ) (law : IsLawful rules) (conflicts : List (List (NodeChoice ℕ ℕ))) (hs : List Assignment) → IsLearning rules conflicts [] hs → AllAssigned rules hs → IsComplete rules (chosen_assigned rules hs)
learned-complete rules law conflicts hs l all =
    let chosen : ℕ → Option ℕ = chosen_assigned rules hs in
    let lie : (c : NodeChoice ℕ ℕ) → Contains (decisions_of hs) c → Lies rules chosen c = assigned-lie rules law conflicts hs l in
    record {
      lines_met = λ r i.
          let x : (x : ℕ) × Contains (rules.nodes r) x = law.some r in
          let own : rules.on x.0 ≡ rules.name r = law.own r x.0 x.1 in
          let h : (v : ℕ) × Contains (decisions_of hs) (decision x.0 v) = all x.0 (by_line r x.0 i x.1) in
          (h.0, sym (ap chosen own) ∙ (lie (decision x.0 h.0) h.1).chosen, lines-fit rules conflicts [] hs l (decision x.0 h.0) h.1 r i (sym own));
      dependencies_met = λ node v r n e i.
          let g : (u : ℕ) × Contains (decisions_of hs) (decision node u) = all node n in
          let same : g.0 ≡ v = some-inj g.0 v (sym (lie (decision node g.0) g.1).chosen ∙ e) in
          let here : Contains (decisions_of hs) (decision node v) = subst (λ x. Contains (decisions_of hs) (decision node x)) same g.1 in
          let x : (x : ℕ) × Contains (rules.nodes r) x = law.some r in
          let own : rules.on x.0 ≡ rules.name r = law.own r x.0 x.1 in
          let h : (w : ℕ) × Contains (decisions_of hs) (decision x.0 w) = all x.0 (by_dependency node v r x.0 n e i x.1) in
          (h.0, sym (ap chosen own) ∙ (lie (decision x.0 h.0) h.1).chosen, pairs-fit rules conflicts [] hs l (decision node v) (decision x.0 h.0) here h.1 r i (sym own));
    }

pub follows-excluded : (rules : Rules ℕ ℕ ℕ ℕ) → IsLawful rules → (conflicts : List (List (NodeChoice ℕ ℕ))) → EachFollows rules places_eq [] conflicts → (old : List (NodeChoice ℕ ℕ)) → Contains conflicts old → LiesInNone rules places_eq old
follows-excluded rules law conflicts f old i = list-excluded rules places_eq law (places-equality rules) conflicts f old i

-- so it has found the best solution
pub learned-best : (rules : Rules ℕ ℕ ℕ ℕ) (law : IsLawful rules) (conflicts : List (List (NodeChoice ℕ ℕ))) (hs : List Assignment) → EachFollows rules places_eq [] conflicts → IsLearning rules conflicts [] hs → AllAssigned rules hs → IsBest rules (chosen_assigned rules hs)
learned-best rules law conflicts hs f l all =
    search-best rules law (frames_assigned rules hs)
    (learned-search rules law conflicts [] hs (follows-excluded rules law conflicts f) tt l)
    (learned-complete rules law conflicts hs l all)
