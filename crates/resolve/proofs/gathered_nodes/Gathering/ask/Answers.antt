use Rattle.std.proofs.Common.{◌≡◌, ℕ, List, None, length, sym, subst, map, arith}
use Rattle.search.specs.declared.parts.TableRequirement.{TableRequirement as Entry}
use Rattle.problems.specs.Rules.{bare}
use Rattle.problems.specs.Tied.Standing.{IsWith, Stands}
use Rattle.resolve.specs.Tied.Building.{AreEntries, Gathered, IsGrown}
use Rattle.resolve.proofs.Gathered.{entries-more, entry-of, only-asked}
use Rattle.resolve.proofs.Standing.{map-pushed, Stands-last_map, longer-push_as, longer-then}
use Rattle.resolve.proofs.gathered_nodes.Gathering.ask.Goals as goal

pub returns-clause-entries : goal.returns-clause-entries
returns-clause-entries c =
    let old : Gathered = record { nodes = c.self.inside.nodes; asked = map (λ wanted. wanted.now) c.self.inside.asked.items; entries = c.self.inside.entries.items } in
    let new : Gathered = record { nodes = c.extras_of.new.nodes; asked = map (λ wanted. wanted.now) c.push-2.new.self.items; entries = c.push.new.self.items } in
    let entry : Entry = record { node = c.in_ok-node.node; more = c.in_ok-more.more; admits = c.in_ok-admits.admits } in
    entries-more c.args.problem.now old new entry c.args.wanted.now (subst (AreEntries c.args.problem.now) (sym c.self.view_is) c.requires.entries)
    (longer-then old.nodes c.number_of.new.self new.nodes c.in_ok-node.ensures.longer c.in_ok-more.ensures.longer)
    (entry-of c.args.problem.now c.number_of.new.self new.nodes entry c.args.wanted.now c.in_ok-more.ensures.longer
    (subst (λ name. Stands c.number_of.new.self c.in_ok-node.node (record { name = name; extra = None })) c.name.ensures c.in_ok-node.ensures.number) c.in_ok-more.ensures.numbers c.in_ok-admits.ensures)
    (map-pushed (λ wanted. wanted.now) c.self.inside.asked.items c.push-2.new.self.items c.args.wanted c.in_ok-push-2.ensures.items)
    c.in_ok-push.ensures.items c.requires.met
    (only-asked c.args.wanted.now old.nodes c.number_of.new.self new.nodes (subst (λ (name : List ℕ). IsWith (bare name) c.self.inside.nodes c.number_of.new.self) c.name.ensures c.in_ok-node.ensures.only) c.in_ok-more.ensures.only)

pub returns-clause-grown : goal.returns-clause-grown
returns-clause-grown c =
    subst (λ old. IsGrown old (record { nodes = c.extras_of.new.nodes; asked = map (λ wanted. wanted.now) c.push-2.new.self.items; entries = c.push.new.self.items })) c.self.view_is (record {
      nodes_more = longer-then c.self.inside.nodes c.number_of.new.self c.extras_of.new.nodes c.in_ok-node.ensures.longer c.in_ok-more.ensures.longer;
      asked_more = longer-push_as _ _ _ (map-pushed (λ wanted. wanted.now) c.self.inside.asked.items c.push-2.new.self.items c.args.wanted c.in_ok-push-2.ensures.items);
    })

pub returns-clause-number : goal.returns-clause-number
returns-clause-number c =
    let count : c.len-number.result ≡ length c.self.inside.asked.items = omega arith in
    subst (λ n. Stands (map (λ wanted. wanted.now) c.push-2.new.self.items) n c.args.wanted.now) (sym count)
    (Stands-last_map (λ wanted. wanted.now) c.self.inside.asked.items c.push-2.new.self.items c.args.wanted c.in_ok-push-2.ensures.items)
