use Rattle.std.proofs.Common.{◌≡◌, ◌∙◌, Some, None, ap, sym, subst}
use Rattle.std.specs.List.{Contains}
use Rattle.std.specs.Option.{option_copied}
use Rattle.states.proofs.EntryFacts.{entry-from, entry-there}
use Rattle.states.specs.State.{entry_on}
use Rattle.exports.proofs.cover.Cover.has.Goals as goal

pub returns-in-Some-clause-has : goal.returns-in-Some-clause-has
returns-in-Some-clause-has c = λ h.
    let entries = c.args.self.now.target.lock.entries in
    let there : entry_on entries c.name.result.now ≡ Some c.in-Some.own.now = sym c.entry.ensures ∙ ap option_copied c.in-Some.is in
    subst (Contains entries) (c.is_same.ensures.0 h) (entry-from entries c.name.result.now c.in-Some.own.now there).0

pub returns-in-Some-clause-lacks : goal.returns-in-Some-clause-lacks
returns-in-Some-clause-lacks c = λ other has.
    let entries = c.args.self.now.target.lock.entries in
    let there : entry_on entries c.name.result.now ≡ Some c.in-Some.own.now = sym c.entry.ensures ∙ ap option_copied c.in-Some.is in
    let own : entry_on entries c.name.result.now ≡ Some c.args.entry.now = ap (entry_on entries) c.name.ensures ∙ entry-there entries c.args.entry.now c.recall_invariant.ensures.order has in
    let same = c.is_same.ensures.1 (cc (sym there ∙ own)) in
    cc

pub returns-in-None-clause-lacks : goal.returns-in-None-clause-lacks
returns-in-None-clause-lacks c = λ other has.
    let entries = c.args.self.now.target.lock.entries in
    let none : entry_on entries c.name.result.now ≡ None = sym c.entry.ensures ∙ ap option_copied c.in-None.is in
    let own : entry_on entries c.name.result.now ≡ Some c.args.entry.now = ap (entry_on entries) c.name.ensures ∙ entry-there entries c.args.entry.now c.recall_invariant.ensures.order has in
    cc
