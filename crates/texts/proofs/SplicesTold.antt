-- Splices that are told one below another.
use Rattle.std.proofs.Common.{◌≡◌, ◌∙◌, ◌++◌, ℕ, ◌+◌, ◌-◌, ◌^◌, Bool, false, List, [], ◌∷◌, ap, append-nil, append_assoc, arith, drop, get_or, length, min, refl, subst, sym, ◌<◌}
use Rattle.std.proofs.lemmas.List.{at_drop_more}
use Rattle.texts.specs.DiffText.{held, lines_told, splice_told, splices_told}
use Rattle.texts.specs.declared.sign.Sign.TheVariants.{Came, Went}
use Rattle.changes.specs.declared.change.parts.Splice.{Splice}

-- splices are told up to those that are left. What is held of the lines before those is the sum of them, as far as it fits
pub record AreTold (colors : Bool) (before text : List ℕ) (put taken : ℕ) (all left : List Splice) : Type 0 where
  pub all_put : ℕ
  pub all_taken : ℕ
  pub put_is : put ≡ held all_put
  pub taken_is : taken ≡ held all_taken
  pub told : colors ≡ false → text ++ splices_told all_put all_taken left ≡ before ++ splices_told 0 0 all

-- what is held gives the same numbers of new lines
number-held : (place put taken : ℕ) → held (place + 1 + held put) - held taken ≡ held (place + 1 + put) - taken
number-held place put taken = omega arith

splice-held : (put taken : ℕ) (splice : Splice) → splice_told (held put) (held taken) splice ≡ splice_told put taken splice
splice-held put taken splice =
    ap (λ number. lines_told Went (held (splice.place + 1)) splice.old ++ lines_told Came number splice.new) (number-held splice.place put taken)

held-more : (sum held_of more : ℕ) → held_of ≡ held sum → min (held_of + more) (2 ^ 64 - 1) ≡ held (sum + more)
held-more sum held_of more is = omega arith

-- nothing is told yet
pub none-told : (colors : Bool) (text : List ℕ) (all : List Splice) → AreTold colors text text 0 0 all all
none-told colors text all = record { all_put = 0; all_taken = 0; put_is = refl; taken_is = refl; told = λ _. refl }

-- one splice more is told
pub one-told : (colors : Bool) (before text next : List ℕ) (put taken new_put new_taken : ℕ) (all rest : List Splice) (splice : Splice)
    → AreTold colors before text put taken all (splice ∷ rest) → (colors ≡ false → next ≡ text ++ splice_told put taken splice)
    → new_put ≡ min (put + length splice.new) (2 ^ 64 - 1) → new_taken ≡ min (taken + length splice.old) (2 ^ 64 - 1) → AreTold colors before next new_put new_taken all rest
one-told colors before text next put taken new_put new_taken all rest splice so written put_next taken_next = record {
  all_put = so.all_put + length splice.new;
  all_taken = so.all_taken + length splice.old;
  put_is = put_next ∙ held-more so.all_put put (length splice.new) so.put_is;
  taken_is = taken_next ∙ held-more so.all_taken taken (length splice.old) so.taken_is;
  told = λ plain.
      let same : splice_told put taken splice ≡ splice_told so.all_put so.all_taken splice =
      (λ i. splice_told (so.put_is i) (so.taken_is i) splice) ∙ splice-held so.all_put so.all_taken splice in
      let behind = splices_told (so.all_put + length splice.new) (so.all_taken + length splice.old) rest in
      ap (λ t. t ++ behind) (written plain ∙ ap (λ t. text ++ t) same)
      ∙ append_assoc text (splice_told so.all_put so.all_taken splice) behind ∙ so.told plain;
}

-- one splice more is told, as a loop over them has it
pub one-more : (colors : Bool) (before text next : List ℕ) (put taken new_put new_taken come gone place : ℕ) (all : List Splice) (splice : Splice)
    → place < length all → splice ≡ get_or all place splice → AreTold colors before text put taken all (drop place all)
    → (colors ≡ false → next ≡ text ++ splice_told put taken splice) → come ≡ length splice.new → gone ≡ length splice.old
    → new_put ≡ min (put + come) (2 ^ 64 - 1) → new_taken ≡ min (taken + gone) (2 ^ 64 - 1) → AreTold colors before next new_put new_taken all (drop (place + 1) all)
one-more colors before text next put taken new_put new_taken come gone place all splice within is so written come_is gone_is put_next taken_next =
    let left : drop place all ≡ splice ∷ drop (place + 1) all = at_drop_more (λ (l : List Splice). l) all place splice within ∙ ap (λ s. s ∷ drop (place + 1) all) (sym is) in
    one-told colors before text next put taken new_put new_taken all (drop (place + 1) all) splice
    (subst (AreTold colors before text put taken all) left so) written
    (put_next ∙ ap (λ n. min (put + n) (2 ^ 64 - 1)) come_is) (taken_next ∙ ap (λ n. min (taken + n) (2 ^ 64 - 1)) gone_is)

-- all splices are told
pub all-told : (colors : Bool) (before text : List ℕ) (put taken : ℕ) (all : List Splice) → AreTold colors before text put taken all [] → colors ≡ false → text ≡ before ++ splices_told 0 0 all
all-told colors before text put taken all so plain = sym (append-nil text) ∙ so.told plain
