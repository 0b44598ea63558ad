use Rattle.std.proofs.Common.{◌≡◌, ◌∙◌, List, ap, map}
use Rattle.inputs.specs.FileNames.{name_of}
use Rattle.inputs.specs.declared.input_files.InputFile.{InputFile}
use Rattle.files.specs.NamedRewrites.{new_file}
use Rattle.files.specs.RewriteParts.{RewriteParts}
use Rattle.files.specs.Saving.{goings, writes}
use Rattle.files.proofs.FolderRuns.{on_ok_map}
use Rattle.files.proofs.RewriteRuns.{being_saved, moved_any, moved_to, nothing_saved, was_saved}
use Rattle.files.proofs.saved_files.SavedFiles.rewrite.Goals as goal

pub returns-clause-saved : goal.returns-clause-saved
returns-clause-saved g c =
    let same_files : map new_file c.as_slice.result.now ≡ writes c.args.self.now c.in_ok-saved.saved = ap (λ (xs : List RewriteParts). map new_file xs) (c.as_slice.ensures.value ∙ c.in_ok-rewrites.ensures.rewrites) in
    let same_names : map name_of c.in_ok-going.going.items ≡ goings c.args.self.now c.in_ok-saved.saved = ap (λ (xs : List InputFile). map name_of xs) c.in_ok-going.ensures in
    on_ok_map c.rewrite_all.result _ _ c.rewrite_all.ensures.done (λ ran. was_saved g.F.Folder.held g.F.Folder.may_leave g.F.Folder.moment g.F.Folder.left_since g.F.Folder.faults c.args.self.now c.args.session.now c.in_ok-saved.saved c.in_ok-saved.ensures.saved c.in_ok-saved.ensures.opens c.in_ok-rewrites.ensures.rising c.args.folder.now c.rewrite_all.new.folder
    (moved_to g.F.Folder.held g.F.Folder.may_leave g.F.Folder.moment g.F.Folder.left_since g.F.Folder.faults (writes c.args.self.now c.in_ok-saved.saved) (goings c.args.self.now c.in_ok-saved.saved) _ _ same_files same_names c.args.folder.now c.rewrite_all.new.folder ran) c.requires)

pub returns-clause-any_moment : goal.returns-clause-any_moment
returns-clause-any_moment g c =
    let same_files : map new_file c.as_slice.result.now ≡ writes c.args.self.now c.in_ok-saved.saved = ap (λ (xs : List RewriteParts). map new_file xs) (c.as_slice.ensures.value ∙ c.in_ok-rewrites.ensures.rewrites) in
    let same_names : map name_of c.in_ok-going.going.items ≡ goings c.args.self.now c.in_ok-saved.saved = ap (λ (xs : List InputFile). map name_of xs) c.in_ok-going.ensures in
    being_saved g.F.Folder.held g.F.Folder.may_leave g.F.Folder.moment g.F.Folder.left_since g.F.Folder.faults c.args.self.now c.args.session.now c.in_ok-saved.saved c.in_ok-saved.ensures.saved c.in_ok-saved.ensures.opens c.args.folder.now c.rewrite_all.new.folder
    (moved_any g.F.Folder.held g.F.Folder.may_leave g.F.Folder.moment g.F.Folder.left_since g.F.Folder.faults (writes c.args.self.now c.in_ok-saved.saved) (goings c.args.self.now c.in_ok-saved.saved) _ _ same_files same_names c.args.folder.now c.rewrite_all.new.folder c.rewrite_all.ensures.any)
