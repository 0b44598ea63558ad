use Rattle.std.proofs.Common.{ℕ, List, Option, Bool, true, false, ◌≡◌, ◌<◌, ◌⊎◌, inl, inr, ◌∙◌, ◌++◌, ◌∷◌, [], length, map, slice_set, Some, refl, sym, ap, subst}
use Rattle.std.specs.Global.{Vec}
use Rattle.learning_search.proofs.Entries.{entries-decisions, insert-free}
use Rattle.learning_search.proofs.Assignments.{partial-push_first, partial-push_decided}
use Rattle.lists.proofs.Members.{map-append}
use Rattle.learning_search.proofs.Rows.{rowed-same}
use Rattle.learning_search.proofs.Watching.{watched-first, watched-decided}
use Rattle.learning_search.specs.declared.demands.Demands.{Demands}
use Rattle.search.specs.declared.conflict.NodeChoice.{NodeChoice}
use Rattle.learning_search.specs.declared.partial_solution.PartialSolution.{PartialSolution}
use Rattle.learning_search.specs.declared.assignment.Assignment.{Assignment}
use Rattle.learning_search.specs.Tied.Demands.{IsWatched}
use Rattle.learning_search.specs.Tied.Gathering.{choice_at}
use Rattle.learning_search.specs.Tied.Learned.{IsFree, IsPartialSolution, demand_of, demands_by, decision_of, entry_of}
use Rattle.search.specs.Table.{TableParts, rules_of, name_of}
use Rattle.learning_search.proofs.partial_solution.PartialSolution.push.Goals as goal

bool_cases : (b : Bool) → (b ≡ true) ⊎ (b ≡ false)
bool_cases true = inl refl
bool_cases false = inr refl

-- a choice is the first on its name, or not
record Leads (t : TableParts) (p : PartialSolution) (h : Assignment) (taken : List (Option (NodeChoice ℕ ℕ))) (names_to_check : Vec ℕ) : Type 0 where
  pub first : h.queue.leads ≡ true → (taken ≡ slice_set p.taken.items (name_of t h.queue.node) (Some (decision_of h))) × (names_to_check.items ≡ p.demands.names_to_check.items ++ name_of t h.queue.node ∷ [])
  pub unchanged : h.queue.leads ≡ false → (taken ≡ p.taken.items) × (names_to_check ≡ p.demands.names_to_check)
  pub known : h.queue.leads ≡ true → name_of t h.queue.node < length t.candidates

entries : (p : PartialSolution) (h : Assignment) (es : List (ℕ × ℕ)) → es ≡ p.choices.entries ++ entry_of h ∷ [] → map choice_at es ≡ map choice_at p.choices.entries ++ decision_of h ∷ []
entries p h es e = ap (map choice_at) e ∙ map-append choice_at p.choices.entries (entry_of h ∷ [])

abbrev led : PartialSolution → Vec ℕ → Demands
led p names_to_check = record { listed = p.demands.listed; rows = p.demands.rows; free = p.demands.free; names_to_check = names_to_check }

watched : (t : TableParts) (p : PartialSolution) (h : Assignment) (es : List (ℕ × ℕ)) (taken seen : List (Option (NodeChoice ℕ ℕ))) (names_to_check : Vec ℕ) → IsPartialSolution t p → es ≡ p.choices.entries ++ entry_of h ∷ [] → Leads t p h taken names_to_check → seen ≡ taken → IsWatched t (led p names_to_check) seen (map choice_at es)
watched t p h es taken seen names_to_check s e k same =
    subst (λ cs. IsWatched t (led p names_to_check) seen cs) (sym (entries p h es e)) (subst (λ xs. IsWatched t (led p names_to_check) xs (map choice_at p.choices.entries ++ decision_of h ∷ [])) (sym same) (elim (bool_cases h.queue.leads) [
      | inl yes_it ↦ subst (λ xs. IsWatched t (led p names_to_check) xs (map choice_at p.choices.entries ++ decision_of h ∷ [])) (sym (k.first yes_it).0)
          (watched-first t p.demands (led p names_to_check) p.taken.items (map choice_at p.choices.entries) (decision_of h) (name_of t h.queue.node) s.watched (subst (λ n. name_of t h.queue.node < n) (sym s.room) (k.known yes_it)) refl refl (k.first yes_it).1)
      | inr not_it ↦ subst (λ xs. IsWatched t (led p names_to_check) xs (map choice_at p.choices.entries ++ decision_of h ∷ [])) (sym (k.unchanged not_it).0)
          (subst (λ (ls : Vec ℕ). IsWatched t (led p ls) p.taken.items (map choice_at p.choices.entries ++ decision_of h ∷ [])) (sym (k.unchanged not_it).1)
          (watched-decided t p.demands p.taken.items (map choice_at p.choices.entries) (decision_of h) s.watched))
    ]))

pub add_all-requires-clause-rowed : goal.add_all-requires-clause-rowed
add_all-requires-clause-rowed c = rowed-same c.args.table.now c.args.self.now.demands (led c.args.self.now c.lead.new.names_to_check) c.requires.partial.rowed refl refl

pub add_all-requires-clause-watched : goal.add_all-requires-clause-watched
add_all-requires-clause-watched c =
    let t : TableParts = c.args.table.now in
    let h : Assignment = record { queue = c.args.queue; place = c.args.place } in
    let p : PartialSolution = c.args.self.now in
    let free : IsFree (map choice_at p.choices.entries) c.args.queue.node = subst (λ (cs : List (NodeChoice ℕ ℕ)). IsFree cs c.args.queue.node) (sym (ap (map choice_at) c.requires.partial.choices ∙ entries-decisions p.assignments.items)) c.requires.free in
    watched t p h c.insert.new.self.entries c.lead.new.taken.items c.as_slice.result.now c.lead.new.names_to_check c.requires.partial (c.in_ok-insert.ensures.entries ∙ insert-free p.choices.entries c.args.queue.node c.args.place free)
    (record { first = λ l. c.in_ok-lead.ensures.first l; unchanged = λ l. (ap (λ v. v.items) (c.in_ok-lead.ensures.unchanged l).0, (c.in_ok-lead.ensures.unchanged l).1); known = λ l. c.in_ok-lead.ensures.known l }) c.as_slice.ensures.value

pub returns-clause-partial : goal.returns-clause-partial
returns-clause-partial c =
    let t : TableParts = c.args.table.now in
    let h : Assignment = record { queue = c.args.queue; place = c.args.place } in
    let p : PartialSolution = c.args.self.now in
    let q : PartialSolution = record { choices = c.insert.new.self; assignments = c.push.new.self; taken = c.lead.new.taken; demands = c.add_all.new.self } in
    let free : IsFree (map choice_at p.choices.entries) c.args.queue.node = subst (λ (cs : List (NodeChoice ℕ ℕ)). IsFree cs c.args.queue.node) (sym (ap (map choice_at) c.requires.partial.choices ∙ entries-decisions p.assignments.items)) c.requires.free in
    let made : c.insert.new.self.entries ≡ p.choices.entries ++ entry_of h ∷ [] = c.in_ok-insert.ensures.entries ∙ insert-free p.choices.entries c.args.queue.node c.args.place free in
    let listed : c.add_all.new.self.listed.items ≡ p.demands.listed.items ++ demands_by (rules_of t) h = c.in_ok-add_all.ensures.listed ∙ ap (λ rs. p.demands.listed.items ++ map (demand_of (Some (decision_of h))) rs) c.wants-wants.ensures.wants in
    let seen : IsWatched t c.add_all.new.self c.lead.new.taken.items (map choice_at c.insert.new.self.entries) = subst (λ xs. IsWatched t c.add_all.new.self xs (map choice_at c.insert.new.self.entries)) c.as_slice.ensures.value c.in_ok-add_all.ensures.watched in
    elim (bool_cases c.args.queue.leads) [
      | inl l ↦ partial-push_first t p q h c.requires.partial (c.in_ok-lead.ensures.known l) l (c.requires.first l) c.in_ok-push.ensures.items made listed (c.in_ok-lead.ensures.first l).0 c.in_ok-add_all.ensures.rowed seen
      | inr l ↦ partial-push_decided t p q h c.requires.partial l c.in_ok-push.ensures.items made listed (ap (λ v. v.items) (c.in_ok-lead.ensures.unchanged l).0) c.in_ok-add_all.ensures.rowed seen
    ]
