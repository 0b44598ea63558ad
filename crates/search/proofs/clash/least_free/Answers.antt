use Rattle.std.proofs.Common.{List, ℕ, Option, MatchOption, cond, nat_lt, take, ◌≡◌, ◌+◌, subst, sym, ◌∙◌, ap}
use Rattle.search.proofs.Least.{IsFound, found-passed, found-lesser}
use Rattle.lists.proofs.Members.{take-whole}
use Rattle.search.proofs.Ranges.{at-member}
use Rattle.search.specs.Rules.{Rules}
use Rattle.search.specs.Tied.Search.{taken_at}
use Rattle.search.specs.Table.{rules_of}
use Rattle.search.proofs.clash.least_free.Goals as goal
use Rattle.search.proofs.clash.least_free.Goals.{then-is_none, else-is_none}

pub name_of-name-requires : goal.name_of-name-requires
name_of-name-requires c = c.requires _ (at-member c.args.nodes.now c.loop-node.node-index 0 c.loop-node-test.true)

pub loop-node-preserved : goal.loop-node-preserved
loop-node-preserved c =
    let rules : Rules ℕ ℕ ℕ ℕ = rules_of c.args.table.now in
    let chosen : ℕ → Option ℕ = taken_at c.args.taken.now in
    let front : List ℕ = take (c.loop-node.node-index + 1) c.args.nodes.now in
    elim c.if-is_none.branch [
      | then-is_none w ↦ subst (λ (o : Option ℕ). IsFound rules chosen front o) (sym w.found-is)
          (found-lesser rules chosen c.args.nodes.now c.loop-node.node-index w.lesser.result c.loop-node.found c.place_of.result c.is_none.result c.loop-node-test.true c.loop-node.invariant
          (c.place_of.ensures ∙ ap chosen c.name_of-name.ensures.name) c.is_none.ensures w.if-is_none.true
          (subst (λ (n : ℕ). MatchOption c.loop-node.found (w.lesser.result ≡ n) (λ other. w.lesser.result ≡ cond (nat_lt n other) n other)) c.name_of-name.ensures.name w.lesser.ensures))
      | else-is_none w ↦ subst (λ (o : Option ℕ). IsFound rules chosen front o) (sym w.found-is)
          (found-passed rules chosen c.args.nodes.now c.loop-node.node-index c.loop-node.found c.place_of.result c.is_none.result c.loop-node-test.true c.loop-node.invariant
          (c.place_of.ensures ∙ ap chosen c.name_of-name.ensures.name) c.is_none.ensures w.if-is_none.false)
    ]

pub returns : goal.returns
returns c = subst (λ (ns : List ℕ). IsFound (rules_of c.args.table.now) (taken_at c.args.taken.now) ns c.loop-node.found) (take-whole c.args.nodes.now c.loop-node.node-index c.loop-node-test.false) c.loop-node.invariant
