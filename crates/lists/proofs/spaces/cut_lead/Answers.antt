use Rattle.std.proofs.Common.{arith, sym, ◌∙◌, ◌≡◌, get_or, true}
use Rattle.std.proofs.lemmas.List.Sums.{prefix_len-drop_yes}
use Rattle.std.proofs.lemmas.Str.{IsCharBoundary-after_ascii, IsCharBoundary-start}
use Rattle.lists.specs.Spaces.{is_space_or_tab}
use Rattle.lists.proofs.SpaceBytes.{is_space_or_tab-ascii}
use Rattle.lists.proofs.spaces.cut_lead.Goals as goal

pub loop-place-init : goal.loop-place-init
loop-place-init c = record { within = omega arith; counted = omega arith; cut = IsCharBoundary-start _ c.as_bytes-bytes.ensures.utf8 }

pub loop-place-preserved : goal.loop-place-preserved
loop-place-preserved c =
    let space : is_space_or_tab (get_or c.as_bytes-bytes.result.now c.loop-place.place 0) ≡ true = sym c.is_space_or_tab.ensures ∙ c.if-is_space_or_tab.true in
    let ascii = is_space_or_tab-ascii _ space in
    let more = prefix_len-drop_yes is_space_or_tab _ c.loop-place.place 0 c.loop-place-test.true space in
    record {
      within = omega arith;
      counted = omega (arith, more);
      cut = IsCharBoundary-after_ascii _ c.loop-place.place c.as_bytes-bytes.ensures.utf8 c.loop-place-test.true ascii;
    }
