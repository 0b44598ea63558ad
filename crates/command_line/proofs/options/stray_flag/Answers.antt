use Rattle.std.proofs.Common.{◌∙◌, Bool, [], ◌∷◌, ap, codes}
use Rattle.clap.specs.Words.{found_of, rows_of}
use Rattle.command_line.specs.Marks.{first_marked}
use Rattle.command_line.specs.Options.{is_stray}
use Rattle.command_line.proofs.options.stray_flag.Goals as goal

pub returns : goal.returns
returns c =
    let before = rows_of (found_of c.args.before.now) in
    let keep = c.is_stray.ensures ∙ ap (λ (taken : Bool). is_stray before (codes "keep-locked") taken) c.takes_keep_locked.ensures in
    let dry = c.is_stray-2.ensures ∙ ap (λ (taken : Bool). is_stray before (codes "dry-run") taken) c.takes_dry_run.ensures in
    let json = c.is_stray-3.ensures ∙ ap (λ (taken : Bool). is_stray before (codes "json") taken) c.takes_json.ensures in
    c.first_marked.ensures ∙ (λ i. first_marked ((codes "--keep-locked", keep i) ∷ (codes "--dry-run", dry i) ∷ (codes "--json", json i) ∷ []))
