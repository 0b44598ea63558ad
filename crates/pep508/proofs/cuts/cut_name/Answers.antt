use Rattle.std.proofs.Common.{arith, sym, ◌∙◌, ◌≡◌, get_or, true}
use Rattle.std.proofs.lemmas.Grind.{common_steps}
use Rattle.std.proofs.lemmas.List.Sums.{prefix_len-drop_yes}
use Rattle.std.proofs.lemmas.Str.{IsCharBoundary-after_ascii, IsCharBoundary-start}
use Rattle.markers.specs.Names.{is_name_byte}
use Rattle.pep508.proofs.Places.{is_name_byte-ascii}
use Rattle.pep508.proofs.cuts.cut_name.Goals as goal

pub loop-end-init : goal.loop-end-init
loop-end-init c = record { within = omega arith; counted = omega arith; cut = IsCharBoundary-start _ c.as_bytes-bytes.ensures.utf8 }

pub loop-end-preserved : goal.loop-end-preserved
loop-end-preserved c =
    let name : is_name_byte (get_or c.as_bytes-bytes.result.now c.loop-end.end 0) ≡ true = sym c.is_name_byte.ensures ∙ c.if-is_name_byte.true in
    let ascii = is_name_byte-ascii _ name in
    let more = prefix_len-drop_yes is_name_byte _ c.loop-end.end 0 c.loop-end-test.true name in
    record {
      within = omega arith;
      counted = omega (arith, more);
      cut = IsCharBoundary-after_ascii _ c.loop-end.end c.as_bytes-bytes.ensures.utf8 c.loop-end-test.true ascii;
    }

pub returns : goal.returns
returns c = grind (arith, common_steps)
