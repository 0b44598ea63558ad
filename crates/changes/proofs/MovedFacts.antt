-- Where a change moves a state.
use Rattle.std.proofs.Common.{◌≡◌, ◌<◌, ◌≤◌, ◌||◌, ℕ, Bool, true, false, List, [], ◌∷◌, Contains, Option, Some, None, length, get_or, map, take, refl, sym, ap, ◌∙◌, subst}
use Rattle.std.proofs.lemmas.Bool.{and_from, and_parts}
use Rattle.std.proofs.lemmas.List.Elements.{AllZip-get_or}
use Rattle.std.specs.List.{AllByRecursion, AllZip, list_all, list_any}
use Rattle.std.specs.Prelude.{◌≢◌, MatchOption}
use Rattle.std.specs.Str.{bytes_eq}
use Rattle.lists.proofs.Members.{take-whole}
use Rattle.changes.specs.Changes.{After, ChangeParts, ChangesNames, ChangesTarget, ChangesTargets, Leads, LeadsNowhere}
use Rattle.states.specs.State.{IsState}
use Rattle.states.specs.StateParts.{StateParts}
use Rattle.changes.specs.Tied.Only.{IsTheOnly}
use Rattle.changes.specs.Tied.Retargeted.{NoTargets, NoneNamed}
use Rattle.changes.specs.Tied.SplicedLines.{LeadToNone, Reads, put_by}
use Rattle.changes.specs.declared.change.parts.EntryChange.{EntryChange}
use Rattle.states.specs.declared.target.Target.{Target}
use Rattle.states.proofs.Among.{among-from, among-of}
use Rattle.states.proofs.PartFacts.{All-member, All-of}
use Rattle.changes.proofs.LinesCarried.{put-there}
use Rattle.changes.proofs.OneOutcome.{After-one, targets-one}
use Rattle.changes.proofs.SplicedLinesRead.{file-reads}
use Rattle.changes.proofs.TargetsByName.{moves-as, moves-from, stays-as, stays-from}

-- a change that leads to no state here leads nowhere
pub nowhere : (change : ChangeParts) (old made : StateParts) → After old change made → (IsState made → ⊥) → LeadsNowhere old change
nowhere change old made after none = λ new leads. none (subst IsState (After-one change old new made leads.0 after) leads.1)

-- nor where new lines of it don't read
pub nowhere-put : (change : ChangeParts) (old : StateParts) → (AllByRecursion Reads (put_by change.splices) → ⊥) → LeadsNowhere old change
nowhere-put change old refused = λ new leads.
    let read : AllByRecursion Reads new.lines = file-reads new.lines leads.1.lines in
    refused (All-of Reads (put_by change.splices) (λ line there. All-member Reads new.lines line read (put-there 0 change.splices old.lines new.lines leads.0.lines line there)))

-- nor where its lines lead to none
pub nowhere-gone : (change : ChangeParts) (old : StateParts) → LeadToNone change.splices old.lines → LeadsNowhere old change
nowhere-gone change old none = λ new leads. none new.lines leads.0.lines

-- nor where it makes nothing of the targets
pub nowhere-targets : (change : ChangeParts) (old : StateParts) → NoTargets change old.targets → LeadsNowhere old change
nowhere-targets change old none = λ new leads. none new.targets leads.1.some leads.0.targets

-- where it leads somewhere, it leads here
pub is-state : (change : ChangeParts) (old made next : StateParts) → After old change made → Leads old change next → IsState made
is-state change old made next after leads = subst IsState (After-one change old next made leads.0 after) leads.1

-- ---- targets

-- the test whether a target has a name, over the targets' names
any-named : (targets : List Target) (name : List ℕ) → list_any (λ t. bytes_eq name t.name) targets ≡ list_any (bytes_eq name) (map (λ t. t.name) targets)
any-named [] name = refl
any-named (t ∷ rest) name = ap (λ (more : Bool). bytes_eq name t.name || more) (any-named rest name)

-- the targets of all changes are there, as it is tested
pub known-from : (targets : List Target) (changes : List EntryChange) → list_all (λ c. list_any (λ t. bytes_eq c.target t.name) targets) changes ≡ true
    → AllByRecursion (λ c. Contains (map (λ t. t.name) targets) c.target) changes
known-from targets [] is = tt
known-from targets (c ∷ rest) is =
    let parts = and_parts (list_any (λ (t : Target). bytes_eq c.target t.name) targets) (list_all (λ (d : EntryChange). list_any (λ (t : Target). bytes_eq d.target t.name) targets) rest) is in
    (among-from (map (λ (t : Target). t.name) targets) c.target (sym (any-named targets c.target) ∙ parts.0), known-from targets rest parts.1)

pub known-of : (targets : List Target) (changes : List EntryChange) → AllByRecursion (λ c. Contains (map (λ t. t.name) targets) c.target) changes
    → list_all (λ c. list_any (λ t. bytes_eq c.target t.name) targets) changes ≡ true
known-of targets [] all = refl
known-of targets (c ∷ rest) all =
    and_from (list_any (λ (t : Target). bytes_eq c.target t.name) targets) (list_all (λ (d : EntryChange). list_any (λ (t : Target). bytes_eq d.target t.name) targets) rest)
    (any-named targets c.target ∙ among-of (map (λ (t : Target). t.name) targets) c.target all.0) (known-of targets rest all.1)

-- ---- targets that stay

-- where the target of an entry isn't there, a change makes nothing of them
pub none-unknown : (change : ChangeParts) (olds : List Target) → change.targets ≡ [] → list_all (λ c. list_any (λ t. bytes_eq c.target t.name) olds) change.entries ≡ false → NoTargets change olds
none-unknown change olds stays unknown = λ news some leads.
    let known = known-of olds change.entries (stays-from change.targets change olds news stays leads).known in
    let no : true ≡ false = sym known ∙ unknown in cc

-- else it makes of them what it makes of each
pub made-of-each : (change : ChangeParts) (olds : List Target) → change.targets ≡ [] → list_all (λ c. list_any (λ t. bytes_eq c.target t.name) olds) change.entries ≡ true
    → (made : Option (List Target)) → IsTheOnly (AllZip (ChangesTarget change) olds) made → MatchOption made (NoTargets change olds) (ChangesTargets change.targets change olds)
made-of-each change olds stays known None only = λ news some leads. only news (stays-from change.targets change olds news stays leads).each
made-of-each change olds stays known (Some news) only = stays-as change.targets change olds news stays (record { each = only.0; known = known-from olds change.entries known })

-- ---- targets of which some come or go

pub made-of-names : (change : ChangeParts) (olds : List Target) → change.targets ≢ [] → (made : Option (List Target)) → MatchOption made (NoneNamed change olds) (ChangesNames change olds)
    → MatchOption made (NoTargets change olds) (ChangesTargets change.targets change olds)
made-of-names change olds moves None none = λ news some leads. none news some (moves-from change.targets change olds news moves leads)
made-of-names change olds moves (Some news) leads = moves-as change.targets change olds news moves leads

-- nor where it leads nowhere from a target
pub stops-at : (change : ChangeParts) (targets : List Target) (place : ℕ) (t : Target) → place < length targets → t ≡ get_or targets place t → IsTheOnly (ChangesTarget change t) None
    → IsTheOnly (AllZip (ChangesTarget change) targets) None
stops-at change targets place t within is none = λ others all.
    none (get_or others place t) (subst (λ (s : Target). ChangesTarget change s (get_or others place t)) (sym is) (AllZip-get_or (ChangesTarget change) targets others place t t all within))

-- all targets are moved
pub moves-all : (change : ChangeParts) (targets : List Target) (place : ℕ) (made : List Target) → length targets ≤ place → AllZip (ChangesTarget change) (take place targets) made
    → IsTheOnly (AllZip (ChangesTarget change) targets) (Some made)
moves-all change targets place made past all =
    let whole : AllZip (ChangesTarget change) targets made = subst (λ (l : List Target). AllZip (ChangesTarget change) l made) (take-whole targets place past) all in
    (whole, λ others also. targets-one change targets others made also whole)
