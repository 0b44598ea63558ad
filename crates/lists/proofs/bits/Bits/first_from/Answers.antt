use Rattle.std.proofs.Common.{◌+◌, ◌*◌, ◌/◌, ◌^◌, Contains, sym, ◌∙◌, subst, arith, rules, w64}
use Rattle.std.proofs.lemmas.List.{get_or_default}
use Rattle.std.specs.Int.{trailing_zeros}
use Rattle.lists.specs.Bits.{IsLeastFrom}
use Rattle.lists.proofs.BitSets.{lowest-within, first-found, passed-word, passed-all}
use Rattle.lists.proofs.bits.Bits.first_from.Goals as goal

pub overflow_add-result-then-rest-ne0 : goal.overflow_add-result-then-rest-ne0
overflow_add-result-then-rest-ne0 c =
    let l = lowest-within c.index.result.now c.loop-at.low (search rules) c.loop-at.invariant.low c.if-rest-ne0.true in
    let b = c.self.invariant in
    omega arith

pub returns-then-rest-ne0 : goal.returns-then-rest-ne0
returns-then-rest-ne0 c = subst (λ ns. IsLeastFrom ns c.args.bound (c.loop-at.at * 64 + (c.loop-at.low + trailing_zeros w64 (c.index.result.now / 2 ^ c.loop-at.low)))) c.self.view_is
    (first-found c.self.inside.words.items c.loop-at.at c.loop-at.low c.index.result.now c.args.bound (c.index.ensures ∙ get_or_default c.self.inside.words.items c.loop-at.at c.index.result.now 0 (omega arith)) (search rules) c.loop-at.invariant.low c.if-rest-ne0.true c.loop-at.invariant.from c.loop-at.invariant.before)

pub loop-at-preserved : goal.loop-at-preserved
loop-at-preserved c = record {
  low = omega arith;
  from = (let a = c.loop-at.invariant.from in let b = c.loop-at.invariant.low in omega arith);
  before = λ n h l. (let p = passed-word c.self.inside.words.items c.loop-at.at c.loop-at.low c.index.result.now c.args.bound (c.index.ensures ∙ get_or_default c.self.inside.words.items c.loop-at.at c.index.result.now 0 (omega arith)) c.if-rest-ne0.false c.loop-at.invariant.before n h l in omega arith);
}

pub returns : goal.returns
returns c n h = passed-all c.self.inside.words.items c.loop-at.at c.loop-at.low c.args.bound (omega arith) c.loop-at.invariant.before n (subst (λ ns. Contains ns n) (sym c.self.view_is) h)
