use Rattle.std.proofs.Common.{◌≡◌, map, true, sym}
use Rattle.lists.specs.Rising.{rises}
use Rattle.snapshot.proofs.FileFacts.{rising_names}
use Rattle.snapshot.proofs.chosen.by_name.Goals as goal

pub returns-then-rises : goal.returns-then-rises
returns-then-rises c =
    let is : rises (map (λ f. f.name) c.args.files) ≡ true = rw (← c.as_slice.ensures) (sym c.if-rises.ensures) in
    rising_names c.args.files is
