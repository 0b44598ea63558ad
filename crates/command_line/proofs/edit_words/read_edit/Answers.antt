use Rattle.std.proofs.lemmas.Result.{IfOk-weaker}
use Rattle.std.proofs.Common.{◌∙◌}
use Rattle.clap.specs.Words.{found_of, rows_of}
use Rattle.command_line.proofs.Requests.{add_is, constrain_is, remove_is, upgrade_is}
use Rattle.command_line.proofs.edit_words.read_edit.Goals as goal

pub returns-in-add : goal.returns-in-add
returns-in-add c = record { edit = IfOk-weaker c.read_addition.result _ _ (λ edit e. e ∙ add_is c.args.name.now (rows_of (found_of c.args.behind.now)) _ c.in-add.is c.value.ensures) c.read_addition.ensures.edit }

pub returns-in-remove : goal.returns-in-remove
returns-in-remove c = record { edit = IfOk-weaker c.read_removal.result _ _ (λ edit e. e ∙ remove_is c.args.name.now (rows_of (found_of c.args.behind.now)) _ c.in-remove.is c.value-in-remove.ensures) c.read_removal.ensures.edit }

pub returns-in-constrain : goal.returns-in-constrain
returns-in-constrain c = record {
  edit = IfOk-weaker c.read_constraint.result _ _ (λ edit e. e ∙ constrain_is c.args.name.now (rows_of (found_of c.args.behind.now)) _ _ c.in-constrain.is c.value-in-constrain.ensures c.value-in-constrain-2.ensures) c.read_constraint.ensures.edit;
}

pub returns-in_ok-read_upgrade-in-upgrade : goal.returns-in_ok-read_upgrade-in-upgrade
returns-in_ok-read_upgrade-in-upgrade c = record { edit = upgrade_is c.args.name.now (rows_of (found_of c.args.behind.now)) _ _ c.in-upgrade.is c.values.ensures c.in_ok-read_upgrade-in-upgrade.ensures.edit }
