use Rattle.std.proofs.Common.{ℕ, List, IsSome, ◌↔◌, ◌≡◌, ◌<◌, ◌+◌, ◌-◌, ◌∙◌, ◌++◌, ◌∷◌, [], Contains, length, map, slice_set, None, refl, sym, ap, subst, arith}
use Rattle.std.proofs.lemmas.List.Elements.{Contains-append_left}
use Rattle.std.specs.BTreeSet.{keys, insert_key}
use Rattle.std.specs.Ordering.{nat_cmp}
use Rattle.learning_search.proofs.Assignments.{listed-length, listed-pop, listed-push, entries-pop, entries-push, partial-pop_first, partial-pop_decided}
use Rattle.lists.proofs.Members.{map-append}
use Rattle.learning_search.proofs.Rows.{inserted, rowed-same}
use Rattle.learning_search.proofs.Watching.{watched-back_first, watched-back_decided}
use Rattle.learning_search.specs.declared.demands.Demands.{Demands}
use Rattle.learning_search.specs.declared.demands.Demand.{Demand}
use Rattle.learning_search.specs.declared.partial_solution.PartialSolution.{PartialSolution}
use Rattle.learning_search.specs.declared.assignment.Assignment.{Assignment}
use Rattle.learning_search.specs.Tied.Demands.{IsWatched}
use Rattle.learning_search.specs.Tied.Gathering.{choice_at}
use Rattle.learning_search.specs.Tied.Learned.{IsPartialSolution, demands_by, demands_of, decision_of, entries_of, entry_of}
use Rattle.search.specs.Table.{TableParts, rules_of, name_of, wants_at}
use Rattle.learning_search.proofs.partial_solution.PartialSolution.pop.Goals as goal
use Rattle.learning_search.proofs.partial_solution.PartialSolution.pop.Goals.{then-assignment+in_ok-insert, else-assignment+in_ok-push}

-- what was required before
fewer : (t : TableParts) (p : PartialSolution) (hs : List Assignment) (h : Assignment) (xs : List Demand) → IsPartialSolution t p → p.assignments.items ≡ hs ++ h ∷ [] → xs ≡ demands_of (rules_of t) hs → (a : Demand) → Contains xs a → Contains p.demands.listed.items a
fewer t p hs h xs s assignments e a i = subst (λ ys. Contains ys a) (sym (s.listed ∙ ap (demands_of (rules_of t)) assignments ∙ listed-push (rules_of t) hs h)) (Contains-append_left (demands_of (rules_of t) hs) (demands_by (rules_of t) h) a (subst (λ ys. Contains ys a) e i))

chosen : (t : TableParts) (p : PartialSolution) (hs : List Assignment) (h : Assignment) (es : List (ℕ × ℕ)) → IsPartialSolution t p → p.assignments.items ≡ hs ++ h ∷ [] → es ≡ entries_of hs → map choice_at p.choices.entries ≡ map choice_at es ++ decision_of h ∷ []
chosen t p hs h es s assignments e =
    ap (map choice_at) (s.choices ∙ ap entries_of assignments ∙ entries-push hs h)
    ∙ map-append choice_at (entries_of hs) (entry_of h ∷ [])
    ∙ ap (λ xs. map choice_at xs ++ decision_of h ∷ []) (sym e)

pub returns-clause-partial : goal.returns-clause-partial
returns-clause-partial c =
    let t : TableParts = c.args.table.now in
    let h : Assignment = c.in-Some.assignment in
    let p : PartialSolution = c.args.self.now in
    let s : IsPartialSolution t p = c.requires.partial in
    let hs : List Assignment = c.pop.new.self.items in
    let assignments : p.assignments.items ≡ hs ++ h ∷ [] = c.in-Some.ensures.items in
    let before : entries_of (hs ++ h ∷ []) ≡ p.choices.entries = sym (c.requires.partial.choices ∙ ap entries_of assignments) in
    let entries : c.pop-2.new.self.entries ≡ entries_of hs = entries-pop c.pop-2.new.self.entries c.pop-2.result hs h (before ∙ c.pop-2.ensures.entries)
    (subst (λ (xs : List (ℕ × ℕ)). IsSome c.pop-2.result ↔ (0 < length xs)) (sym before) c.pop-2.ensures.found) in
    let left : length p.demands.listed.items - length c.wants.result.now + length (wants_at t h.queue.node h.place) ≡ length p.demands.listed.items =
    (let e = listed-length t p hs h c.requires.partial assignments in
    let w : length c.wants.result.now ≡ length (wants_at t h.queue.node h.place) = ap length c.wants.ensures.wants in
    omega arith) in
    let listed : c.drop_last.new.self.listed.items ≡ demands_of (rules_of t) hs = c.drop_last.ensures.listed ∙ listed-pop t p hs h (length p.demands.listed.items - length c.wants.result.now) c.requires.partial assignments left in
    elim c.if-assignment.branch [
      | then-assignment+in_ok-insert w ↦
          let g : Demands = record { listed = c.drop_last.new.self.listed; rows = c.drop_last.new.self.rows; free = w.insert.new.self; names_to_check = c.drop_last.new.self.names_to_check } in
          let ks : keys w.insert.new.self ≡ insert_key nat_cmp (keys c.drop_last.new.self.free) c.name_of-name.result = w.in_ok-insert.ensures.keys in
          let add : Contains (keys w.insert.new.self) c.name_of-name.result × ((m : ℕ) → Contains (keys c.drop_last.new.self.free) m → Contains (keys w.insert.new.self) m) = subst (λ xs. Contains xs c.name_of-name.result × ((m : ℕ) → Contains (keys c.drop_last.new.self.free) m → Contains xs m)) (sym ks) (inserted (keys c.drop_last.new.self.free) c.name_of-name.result) in
          let seen : IsWatched t g (slice_set p.taken.items (name_of t h.queue.node) None) (map choice_at c.pop-2.new.self.entries) = watched-back_first t c.requires.table p.demands g p.taken.items (map choice_at p.choices.entries) (map choice_at c.pop-2.new.self.entries) (decision_of h) c.requires.partial.watched
          (subst (λ n. name_of t h.queue.node < n) (sym c.requires.partial.room) w.set_first.ensures.known) (fewer t p hs h c.drop_last.new.self.listed.items c.requires.partial assignments listed)
          (λ m i. add.1 m (subst (λ f. Contains (keys f) m) (sym c.drop_last.ensures.free) i)) (subst (λ m. Contains (keys w.insert.new.self) m) c.name_of-name.ensures.name add.0) c.drop_last.ensures.names_to_check (chosen t p hs h c.pop-2.new.self.entries c.requires.partial assignments entries) in
          subst (λ (q : PartialSolution). IsPartialSolution t q) (sym w.self-is)
          (partial-pop_first t p (record { choices = c.pop-2.new.self; assignments = c.pop.new.self; taken = w.set_first.new.taken; demands = g }) h c.requires.partial assignments w.set_first.ensures.known w.if-assignment.true ((c.requires.last hs h assignments).1 w.if-assignment.true) entries listed w.set_first.ensures.set
          (rowed-same t c.drop_last.new.self g c.drop_last.ensures.rowed refl refl) (subst (λ xs. IsWatched t g xs (map choice_at c.pop-2.new.self.entries)) (sym w.set_first.ensures.set) seen))
      | else-assignment+in_ok-push w ↦
          let g : Demands = record { listed = c.drop_last.new.self.listed; rows = c.drop_last.new.self.rows; free = c.drop_last.new.self.free; names_to_check = w.push.new.self } in
          let names_to_check : w.push.new.self.items ≡ p.demands.names_to_check.items ++ name_of t h.queue.node ∷ [] = w.in_ok-push.ensures.items ∙ ap (λ v. v.items ++ c.name_of-name.result ∷ []) c.drop_last.ensures.names_to_check ∙ ap (λ n. p.demands.names_to_check.items ++ n ∷ []) c.name_of-name.ensures.name in
          subst (λ (q : PartialSolution). IsPartialSolution t q) (sym w.self-is)
          (partial-pop_decided t p (record { choices = c.pop-2.new.self; assignments = c.pop.new.self; taken = c.args.self.now.taken; demands = g }) h c.requires.partial assignments w.if-assignment.false entries listed refl
          (rowed-same t c.drop_last.new.self g c.drop_last.ensures.rowed refl refl)
          (watched-back_decided t c.requires.table p.demands g p.taken.items (map choice_at p.choices.entries) (map choice_at c.pop-2.new.self.entries) (decision_of h) c.requires.partial.watched (fewer t p hs h c.drop_last.new.self.listed.items c.requires.partial assignments listed) c.drop_last.ensures.free names_to_check (chosen t p hs h c.pop-2.new.self.entries c.requires.partial assignments entries)))
    ]
