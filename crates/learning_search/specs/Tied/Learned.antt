-- What a search that learns keeps true of its choices.
-- Tied to `IsBest` by the contract of `learned_best`; need not be read.
use Rattle.std.specs.Prelude.{ℕ, List, [], ◌∷◌, ◌++◌, Option, Some, None, Bool, true, false, ◌≡◌, ◌<◌, take, length, map}
use Rattle.std.specs.List.{Contains, slice_index_or}
use Rattle.std.specs.Ordering.{nat_cmp}
use Rattle.search.specs.declared.conflict.NodeChoice.{NodeChoice}
use Rattle.learning_search.specs.declared.demands.Demand.{Demand}
use Rattle.learning_search.specs.declared.partial_solution.PartialSolution.{PartialSolution}
use Rattle.search.specs.declared.parts.Frame.{Frame}
use Rattle.learning_search.specs.declared.assignment.Assignment.{Assignment}
use Rattle.learning_search.specs.declared.candidate_queue.CandidateQueue.{CandidateQueue}
use Rattle.learning_search.specs.Tied.Demands.{AreRowed, IsWatched}
use Rattle.learning_search.specs.Tied.Gathering.{IsCompleted, choice_at, decision}
use Rattle.search.specs.Rules.{Rules}
use Rattle.search.specs.Tied.Search.{pins_of}
use Rattle.search.specs.Solutions.{Pin, Needed, IsNext, version_pinned}
use Rattle.search.specs.Table.{TableParts, rules_of, name_of}

abbrev pub decision_of : Assignment → NodeChoice ℕ ℕ
decision_of h = decision h.queue.node h.place

abbrev pub decisions_of : List Assignment → List (NodeChoice ℕ ℕ)
decisions_of [] = []
decisions_of (h ∷ hs) = decision_of h ∷ decisions_of hs

-- the first choice on a name is a choice of the name
abbrev pub with_frame : Rules ℕ ℕ ℕ ℕ → Bool → Assignment → List Frame → List Frame
with_frame rules true h fs = record { name = rules.on h.queue.node; place = h.place; turn = h.queue.turn } ∷ fs
with_frame rules false h fs = fs

abbrev pub frames_assigned : Rules ℕ ℕ ℕ ℕ → List Assignment → List Frame
frames_assigned rules [] = []
frames_assigned rules (h ∷ hs) = with_frame rules h.queue.leads h (frames_assigned rules hs)

-- the versions that the choices give to names
abbrev pub names_assigned : Rules ℕ ℕ ℕ ℕ → List Assignment → List (Pin ℕ ℕ)
names_assigned rules hs = pins_of (frames_assigned rules hs)

abbrev pub chosen_assigned : Rules ℕ ℕ ℕ ℕ → List Assignment → ℕ → Option ℕ
chosen_assigned rules hs = version_pinned rules.compare (names_assigned rules hs)

-- for each name the first choice on it
abbrev pub with_leader : Rules ℕ ℕ ℕ ℕ → Bool → Assignment → List (Pin ℕ (NodeChoice ℕ ℕ)) → List (Pin ℕ (NodeChoice ℕ ℕ))
with_leader rules true h ps = record { name = rules.on h.queue.node; version = decision_of h } ∷ ps
with_leader rules false h ps = ps

abbrev pub leaders_assigned : Rules ℕ ℕ ℕ ℕ → List Assignment → List (Pin ℕ (NodeChoice ℕ ℕ))
leaders_assigned rules [] = []
leaders_assigned rules (h ∷ hs) = with_leader rules h.queue.leads h (leaders_assigned rules hs)

-- the node is on the next name; or its name has a version
abbrev pub IsInTurn : Rules ℕ ℕ ℕ ℕ → List (Pin ℕ ℕ) → ℕ → Bool → Type 0
IsInTurn rules taken node true = IsNext rules taken (rules.on node)
IsInTurn rules taken node false = (v : ℕ) × (version_pinned rules.compare taken (rules.on node) ≡ Some v)

-- a line needs the node, or one of the choices, this one, does
abbrev pub IsNeededBy : Rules ℕ ℕ ℕ ℕ → List (NodeChoice ℕ ℕ) → ℕ → Option (NodeChoice ℕ ℕ) → Type 0
IsNeededBy rules decisions node None = (r : ℕ) × Contains rules.lines r × Contains (rules.nodes r) node
IsNeededBy rules decisions node (Some c) = (r : ℕ) × Contains decisions c × Contains (rules.wants c.node c.version) r × Contains (rules.nodes r) node

-- no choice is at the node
abbrev pub IsFree : List (NodeChoice ℕ ℕ) → ℕ → Type 0
IsFree decisions node = (v : ℕ) → Contains decisions (decision node v) → ⊥

-- The node comes next behind the choices that are assigned. Each refused candidate completes a recorded conflict with choices that are assigned.
pub record IsCandidateQueue (rules : Rules ℕ ℕ ℕ ℕ) (conflicts : List (List (NodeChoice ℕ ℕ))) (before : List Assignment) (queue : CandidateQueue) : Type 0 where
  pub in_turn : IsInTurn rules (names_assigned rules before) queue.node queue.leads
  pub needed : Needed rules (chosen_assigned rules before) queue.node
  pub by : IsNeededBy rules (decisions_of before) queue.node queue.by
  pub free : IsFree (decisions_of before) queue.node
  pub blamed : (c : NodeChoice ℕ ℕ) → Contains queue.blame.items c → Contains (decisions_of before) c
  pub refused : (w : ℕ) → Contains (take queue.turn (rules.candidates (rules.on queue.node))) w → IsCompleted conflicts queue.blame.items (decision queue.node w)

-- what the one choice wants on the other's name admits the other's version
abbrev pub ChoicesFit : Rules ℕ ℕ ℕ ℕ → NodeChoice ℕ ℕ → NodeChoice ℕ ℕ → Type 0
ChoicesFit rules c d = (r : ℕ) → Contains (rules.wants c.node c.version) r → rules.name r ≡ rules.on d.node → rules.admits r d.version ≡ true

abbrev pub LinesFit : Rules ℕ ℕ ℕ ℕ → NodeChoice ℕ ℕ → Type 0
LinesFit rules c = (r : ℕ) → Contains rules.lines r → rules.name r ≡ rules.on c.node → rules.admits r c.version ≡ true

-- a choice clashes neither with a line, nor with itself, nor with those before it; and its name has no other version
pub record FitsBefore (rules : Rules ℕ ℕ ℕ ℕ) (before : List Assignment) (c : NodeChoice ℕ ℕ) : Type 0 where
  pub lines : LinesFit rules c
  pub own : ChoicesFit rules c c
  pub to : (d : NodeChoice ℕ ℕ) → Contains (decisions_of before) d → ChoicesFit rules c d
  pub from : (d : NodeChoice ℕ ℕ) → Contains (decisions_of before) d → ChoicesFit rules d c
  pub one_version : (v : ℕ) → chosen_assigned rules before (rules.on c.node) ≡ Some v → v ≡ c.version

-- a choice is assigned: it has the candidate of its turn, and fits
pub record IsAssignment (rules : Rules ℕ ℕ ℕ ℕ) (conflicts : List (List (NodeChoice ℕ ℕ))) (before : List Assignment) (h : Assignment) : Type 0 where
  pub queue : IsCandidateQueue rules conflicts before h.queue
  pub turn : h.queue.turn < length (rules.candidates (rules.on h.queue.node))
  pub place : slice_index_or (rules.candidates (rules.on h.queue.node)) h.queue.turn h.place ≡ h.place
  pub fits : FitsBefore rules before (decision_of h)

abbrev pub IsLearning : Rules ℕ ℕ ℕ ℕ → List (List (NodeChoice ℕ ℕ)) → List Assignment → List Assignment → Type 0
IsLearning rules conflicts before [] = Unit {0}
IsLearning rules conflicts before (h ∷ hs) = IsAssignment rules conflicts before h × IsLearning rules conflicts (before ++ h ∷ []) hs

-- ---- what the lists of a search hold

abbrev pub demand_of : Option (NodeChoice ℕ ℕ) → ℕ → Demand
demand_of by r = record { requirement = r; by = by }

abbrev pub demands_by : Rules ℕ ℕ ℕ ℕ → Assignment → List Demand
demands_by rules h = map (demand_of (Some (decision_of h))) (rules.wants h.queue.node h.place)

abbrev pub demands_assigned : Rules ℕ ℕ ℕ ℕ → List Assignment → List Demand
demands_assigned rules [] = []
demands_assigned rules (h ∷ hs) = demands_by rules h ++ demands_assigned rules hs

-- what lines require, and then what the choices do
abbrev pub demands_of : Rules ℕ ℕ ℕ ℕ → List Assignment → List Demand
demands_of rules hs = map (demand_of None) rules.lines ++ demands_assigned rules hs

abbrev pub entry_of : Assignment → ℕ × ℕ
entry_of h = (h.queue.node, h.place)

abbrev pub entries_of : List Assignment → List (ℕ × ℕ)
entries_of [] = []
entries_of (h ∷ hs) = entry_of h ∷ entries_of hs

abbrev pub first_at : List (Option (NodeChoice ℕ ℕ)) → ℕ → Option (NodeChoice ℕ ℕ)
first_at taken n = slice_index_or taken n None

pub record IsPartialSolution (t : TableParts) (p : PartialSolution) : Type 0 where
  pub choices : p.choices.entries ≡ entries_of p.assignments.items
  pub room : length p.taken.items ≡ length t.candidates
  pub taken : (n : ℕ) → first_at p.taken.items n ≡ version_pinned nat_cmp (leaders_assigned (rules_of t) p.assignments.items) n
  pub listed : p.demands.listed.items ≡ demands_of (rules_of t) p.assignments.items
  pub rowed : AreRowed t p.demands
  pub watched : IsWatched t p.demands p.taken.items (map choice_at p.choices.entries)

-- the last choice is at a node of the table; where it leads, its name had no choice before
abbrev pub LastIsNew : TableParts → List Assignment → Type 0
LastIsNew t hs = (front : List Assignment) (last : Assignment) → hs ≡ front ++ last ∷ [] → (last.queue.node < length t.nodes) × (last.queue.leads ≡ true → version_pinned nat_cmp (leaders_assigned (rules_of t) front) (name_of t last.queue.node) ≡ None)
