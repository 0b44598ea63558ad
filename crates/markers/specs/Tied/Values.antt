-- What the value of a variable reads as.
-- Tied to `version_read` and `clauses_read` by the model of `Value`; need not be read.
use Rattle.std.specs.Prelude.{ℕ, List}
use Rattle.markers.specs.declared.comparison.Comparison.TheVariants as comparisons
use Rattle.markers.specs.declared.value.Readings.{Readings}
use Rattle.markers.specs.Comparisons.{clauses_read, version_read}

-- all that a text reads as
abbrev pub readings_of : List ℕ → Readings
readings_of text = record {
  version = version_read text;
  compatible = clauses_read comparisons.Compatible text;
  equal = clauses_read comparisons.Equal text;
  not_equal = clauses_read comparisons.NotEqual text;
  at_most = clauses_read comparisons.AtMost text;
  at_least = clauses_read comparisons.AtLeast text;
  below = clauses_read comparisons.Below text;
  above = clauses_read comparisons.Above text;
}
