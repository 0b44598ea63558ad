use Rattle.std.proofs.Common.{◌≡◌, ◌++◌, ◌∙◌, List, [], ◌∷◌, ap, map, ℕ, refl, sym, string_bytes}
use Rattle.std.specs.List.{flat_map}
use Rattle.std.proofs.lemmas.Iterator.{YieldsList-from_chars}
use Rattle.std.proofs.lemmas.Iterator.Consumers.{YieldsList-end}
use Rattle.phrases.specs.Plain.{plain_letter}
use Rattle.phrases.proofs.plain_text.add_plain.Goals as goal

-- items that are mapped to themselves stay
map-same : (xs : List ℕ) → map (λ x. x) xs ≡ xs
map-same [] = refl
map-same (x ∷ xs) = ap (λ (ys : List ℕ). x ∷ ys) (map-same xs)

pub returns : goal.returns
returns c =
    let end = YieldsList-end (YieldsList-from_chars c.args.given.now c.utf8.given cc) c.loop-letter.yielded _ c.loop-letter.yielded_by _ _ c.in-None.is c.next.ensures.steps in
    c.loop-letter.invariant ∙ ap (λ letters. string_bytes c.args.text.now ++ flat_map plain_letter letters) (sym (map-same c.loop-letter.yielded) ∙ end.0)
