use Rattle.std.proofs.Common.{◌≡◌, ◌++◌, drop, map}
use Rattle.std.specs.List.{list_all}
use Rattle.markers.specs.Names.{is_name, normal_of}
use Rattle.edits.proofs.upgrade.names_in.Given as goal

abbrev pub invariant-loop-text : goal.invariant-loop-text
invariant-loop-text l = record {
  names : l.names.items ++ map normal_of (drop l.text-index l.texts) ≡ map normal_of l.texts;
  all : list_all is_name (drop l.text-index l.texts) ≡ list_all is_name l.texts;
}
