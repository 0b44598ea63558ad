-- Lists in the order of their bytes, lent upward.
unfoldable pub use Rattle.lists.specs.Rising.{rises}
