use Rattle.std.proofs.Common.{[], ◌<◌, length, arith, ap, sym, ◌∙◌, subst, length-append, append-nil}
use Rattle.search.proofs.Walks.{followed-step, followed-skip}
use Rattle.search.specs.Tied.Nodes.{IsGrown, nodes_linked, wants_linked}
use Rattle.search.specs.Tied.Search.{taken_at}
use Rattle.search.specs.Table.{rules_of, name_of}
use Rattle.search.proofs.needed_nodes.follow_at.Goals as goal

pub name_of-requires : goal.name_of-requires
name_of-requires c = subst (λ n. c.at-node.result < n) c.requires.room c.at-node.ensures.within

pub follow-requires-clause-known : goal.follow-requires-clause-known
follow-requires-clause-known c = subst (λ n. c.at-node.result < n) c.requires.room c.at-node.ensures.within

pub returns-then-name_of-known_before-clause-kept : goal.returns-then-name_of-known_before-clause-kept
returns-then-name_of-known_before-clause-kept c = ([], sym (append-nil c.args.required.now.members))

pub returns-then-name_of-known_before-clause-followed : goal.returns-then-name_of-known_before-clause-followed
returns-then-name_of-known_before-clause-followed c = followed-skip (rules_of c.args.table.now) (taken_at c.args.taken.now) c.args.nodes.now.members c.args.required.now.members c.args.known_before c.args.at c.at-node.result c.requires.followed c.requires.within c.at-node.ensures.member c.if-at-known_before.true (λ e. c.if-name_of-known_before.true (c.name_of.ensures.name ∙ e))

pub returns-clause-grown : goal.returns-clause-grown
returns-clause-grown c =
    let g : IsGrown c.args.nodes.now c.follow.new.nodes (nodes_linked (rules_of c.args.table.now) c.at-node.result (taken_at c.args.taken.now (name_of c.args.table.now c.at-node.result))) = c.in_ok-follow.ensures.nodes in
    let e = ap length g.grows.extended in
    omega (arith, e, length-append c.args.nodes.now.members g.grows.more)

pub returns-clause-room : goal.returns-clause-room
returns-clause-room c =
    let g : IsGrown c.args.nodes.now c.follow.new.nodes (nodes_linked (rules_of c.args.table.now) c.at-node.result (taken_at c.args.taken.now (name_of c.args.table.now c.at-node.result))) = c.in_ok-follow.ensures.nodes in
    g.room

pub returns-clause-required_room : goal.returns-clause-required_room
returns-clause-required_room c =
    let k : IsGrown c.args.required.now c.follow.new.required (wants_linked (rules_of c.args.table.now) c.at-node.result (taken_at c.args.taken.now (name_of c.args.table.now c.at-node.result))) = c.in_ok-follow.ensures.required in
    k.room

pub returns-clause-kept : goal.returns-clause-kept
returns-clause-kept c =
    let k : IsGrown c.args.required.now c.follow.new.required (wants_linked (rules_of c.args.table.now) c.at-node.result (taken_at c.args.taken.now (name_of c.args.table.now c.at-node.result))) = c.in_ok-follow.ensures.required in
    (k.grows.more, k.grows.extended)

pub returns-clause-followed : goal.returns-clause-followed
returns-clause-followed c =
    let g : IsGrown c.args.nodes.now c.follow.new.nodes (nodes_linked (rules_of c.args.table.now) c.at-node.result (taken_at c.args.taken.now (name_of c.args.table.now c.at-node.result))) = c.in_ok-follow.ensures.nodes in
    let k : IsGrown c.args.required.now c.follow.new.required (wants_linked (rules_of c.args.table.now) c.at-node.result (taken_at c.args.taken.now (name_of c.args.table.now c.at-node.result))) = c.in_ok-follow.ensures.required in
    followed-step (rules_of c.args.table.now) (taken_at c.args.taken.now) c.args.nodes.now.members c.follow.new.nodes.members c.args.required.now.members c.follow.new.required.members c.args.known_before c.args.at c.at-node.result c.requires.followed c.requires.within c.at-node.ensures.member g.grows k.grows
