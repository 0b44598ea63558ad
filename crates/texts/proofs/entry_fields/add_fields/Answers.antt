use Rattle.std.proofs.Common.{string_bytes}
use Rattle.texts.proofs.FieldsTold.{fields-told}
use Rattle.texts.proofs.entry_fields.add_fields.Goals as goal

pub returns : goal.returns
returns c = fields-told (string_bytes c.args.text.now) (string_bytes c.add_field.new.text) (string_bytes c.add_field-2.new.text) (string_bytes c.add_field-3.new.text)
    (string_bytes c.add_field-4.new.text) (string_bytes c.close_fields.new.text) c.args.has_files c.args.has_hashes c.args.has_python c.args.has_needs
    c.in_ok-add_field.ensures c.in_ok-add_field-2.ensures c.in_ok-add_field-3.ensures c.in_ok-add_field-4.ensures c.in_ok-close_fields.ensures
