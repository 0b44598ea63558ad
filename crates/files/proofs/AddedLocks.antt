-- A lock that is taken from beside its place too.
use Rattle.std.proofs.Common.{◌≡◌, ◌⊎◌, ◌∙◌, ℕ, Bool, true, false, List, ap, cond, inl, inr, refl, sym, true≢false}
use Rattle.std.proofs.lemmas.Bool.{cases_Bool}
use Rattle.std.proofs.lemmas.Map.Text.{is_eq-slice_cmp}
use Rattle.std.proofs.lemmas.Slice.Eq.{bytes_eq-Decides}
use Rattle.std.specs.Cmp.Lexicographic.{slice_cmp}
use Rattle.std.specs.Ordering.{is_eq, nat_cmp}
use Rattle.std.specs.Str.{bytes_eq}
use Rattle.inputs.specs.declared.input_files.InputFile.{InputFile}
use Rattle.inputs.specs.declared.input_files.InputFile.TheVariants.{Lock}
use Rattle.files.specs.Beside.{has}
use Rattle.files.specs.NextLocks.{Takes}
use Rattle.files.specs.declared.beside.Beside.{Beside}

-- names that were put among others
pub takes-inserted : (file : InputFile) (name : List ℕ) (old new : Beside) → file ≡ Lock name → new.requirements ≡ old.requirements → new.journal ≡ old.journal
    → ((other : List ℕ) → has new (Lock other) ≡ cond (is_eq (slice_cmp nat_cmp name other)) true (has old (Lock other))) → Takes file old new
takes-inserted file name old new is requirements journal put = record {
  requirements = requirements;
  journal = journal;
  locks = λ other had. elim (cases_Bool (is_eq (slice_cmp nat_cmp name other))) [
    | inl same ↦ inr (is ∙ ap (λ (n : List ℕ). Lock n) (one other same))
    | inr differ ↦ inl (sym (put other ∙ ap (λ (b : Bool). cond b true (has old (Lock other))) differ) ∙ had)
  ];
  keeps = λ other had. elim (cases_Bool (is_eq (slice_cmp nat_cmp name other))) [
    | inl same ↦ put other ∙ ap (λ (b : Bool). cond b true (has old (Lock other))) same
    | inr differ ↦ put other ∙ ap (λ (b : Bool). cond b true (has old (Lock other))) differ ∙ elim had [
      | inl before ↦ before
      | inr here ↦ absurd (true≢false (sym (self other (let both : Lock name ≡ Lock other = sym is ∙ here in cc)) ∙ differ))
    ]
  ];
}
  where
    one : (other : List ℕ) → is_eq (slice_cmp nat_cmp name other) ≡ true → name ≡ other
    one other same = (bytes_eq-Decides name other).0 (sym (is_eq-slice_cmp name other) ∙ same)

    self : (other : List ℕ) → name ≡ other → is_eq (slice_cmp nat_cmp name other) ≡ true
    self other same = is_eq-slice_cmp name other ∙ (bytes_eq-Decides name other).1 same
