use Rattle.std.proofs.Common.{◌≡◌, rules, subst, sym}
use Rattle.files.proofs.NamesApart.{rewrites-apart}
use Rattle.files.specs.NamedRewrites.{AreNamedApart}
use Rattle.files.specs.Rewrites.{rewrites_of}
use Rattle.files.proofs.saved_files.SavedFiles.rewrites.Goals as goal

pub returns : goal.returns
returns c =
    let made : c.push_locks-2.new.files.items ≡ rewrites_of c.args.self.now c.args.saved.now = search rules in
    record { rewrites = made; apart = subst AreNamedApart (sym made) (rewrites-apart c.args.self.now c.args.saved.now c.in_ok-push_locks.ensures.rising); rising = c.in_ok-push_locks.ensures.rising }
