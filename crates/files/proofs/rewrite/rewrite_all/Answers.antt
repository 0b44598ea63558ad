use Rattle.std.proofs.Common.{◌≡◌, ◌∙◌, List, ap, map}
use Rattle.inputs.specs.FileNames.{name_of}
use Rattle.inputs.specs.declared.input_files.InputFile.{InputFile}
use Rattle.files.specs.NamedRewrites.{new_file}
use Rattle.files.proofs.RewriteRuns.{not_rewritten, rewritten, rewritten_any}
use Rattle.files.proofs.rewrite.rewrite_all.Goals as goal

pub returns-in-Ok-clause-done : goal.returns-in-Ok-clause-done
returns-in-Ok-clause-done g c =
    let files : c.as_slice-3.result.now ≡ map new_file c.args.rewrites.now = c.as_slice-3.ensures.value ∙ c.in_ok-files-2.ensures ∙ c.as_slice-2.ensures.value ∙ c.in_ok-named.ensures in
    let names : c.as_slice-4.result.now ≡ map name_of c.args.going.items = c.as_slice-4.ensures.value ∙ c.in_ok-going_names.ensures ∙ ap (λ (xs : List InputFile). map name_of xs) c.as_slice.ensures.value in
    (rewritten g.F.Folder.held g.F.Folder.may_leave g.F.Folder.moment g.F.Folder.left_since g.F.Folder.faults (map new_file c.args.rewrites.now) (map name_of c.args.going.items) c.as_slice-3.result.now c.as_slice-4.result.now files names c.args.folder.now c.add.new.self c.save.new.folder c.add.ensures.still c.in-Ok.ensures.saved c.save.ensures.any_moment c.save.ensures.cause.later)

pub returns-in-Ok-clause-any : goal.returns-in-Ok-clause-any
returns-in-Ok-clause-any g c =
    let files : c.as_slice-3.result.now ≡ map new_file c.args.rewrites.now = c.as_slice-3.ensures.value ∙ c.in_ok-files-2.ensures ∙ c.as_slice-2.ensures.value ∙ c.in_ok-named.ensures in
    let names : c.as_slice-4.result.now ≡ map name_of c.args.going.items = c.as_slice-4.ensures.value ∙ c.in_ok-going_names.ensures ∙ ap (λ (xs : List InputFile). map name_of xs) c.as_slice.ensures.value in
    rewritten_any g.F.Folder.held g.F.Folder.may_leave g.F.Folder.moment g.F.Folder.left_since g.F.Folder.faults (map new_file c.args.rewrites.now) (map name_of c.args.going.items) c.requires c.args.folder.now c.save.new.folder
    (rewritten g.F.Folder.held g.F.Folder.may_leave g.F.Folder.moment g.F.Folder.left_since g.F.Folder.faults (map new_file c.args.rewrites.now) (map name_of c.args.going.items) c.as_slice-3.result.now c.as_slice-4.result.now files names c.args.folder.now c.add.new.self c.save.new.folder c.add.ensures.still c.in-Ok.ensures.saved c.save.ensures.any_moment c.save.ensures.cause.later)

pub returns-clause-any : goal.returns-clause-any
returns-clause-any g c =
    let files : c.as_slice-3.result.now ≡ map new_file c.args.rewrites.now = c.as_slice-3.ensures.value ∙ c.in_ok-files-2.ensures ∙ c.as_slice-2.ensures.value ∙ c.in_ok-named.ensures in
    let names : c.as_slice-4.result.now ≡ map name_of c.args.going.items = c.as_slice-4.ensures.value ∙ c.in_ok-going_names.ensures ∙ ap (λ (xs : List InputFile). map name_of xs) c.as_slice.ensures.value in
    not_rewritten g.F.Folder.held g.F.Folder.may_leave g.F.Folder.moment g.F.Folder.left_since g.F.Folder.faults (map new_file c.args.rewrites.now) (map name_of c.args.going.items) c.as_slice-3.result.now c.as_slice-4.result.now files names c.args.folder.now c.add.new.self c.save.new.folder c.unsaved.new.self
    c.add.ensures.still c.in-Err.ensures.fault c.save.ensures.any_moment c.save.ensures.cause.later c.unsaved.ensures.still
