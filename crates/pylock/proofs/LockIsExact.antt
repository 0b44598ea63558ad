-- A table that is read as a lock is the table of that lock.
use Rattle.std.proofs.Common.{◌≡◌, ℕ, List, [], ◌∷◌, codes, Option, Some, None, option_and_then, Result, Ok, Err, refl, sym, ap, ◌∙◌, inl, inr, if◌then◌else◌}
use Rattle.std.specs.Prelude.{⊤}
use Rattle.std.proofs.lemmas.Bool.{cases_Bool}
use Rattle.std.proofs.lemmas.Slice.Eq.{bytes_eq-Decides}
use Rattle.std.specs.Str.{bytes_eq}
use Rattle.toml.specs.Data.{Data, string, array, Items, no_items, item, Members, as_array, as_str, get_member}
use Rattle.pylock.specs.declared.flaw.Flaw.{Flaw}
use Rattle.pylock.specs.CanonicalTexts.{if_lower, lower_digest}
use Rattle.pylock.specs.Flaws.{found}
use Rattle.pylock.specs.Forms.{table_with, text_at, unknown_in}
use Rattle.hex.specs.Hex.{decode_sized, encode_lower}
use Rattle.hex.specs.declared.error.FromHexError.{FromHexError}
use Rattle.pylock.specs.Locks.{LockParts}
use Rattle.pylock.specs.LockOfTable.{at_key, creator_in, entries_in, environment_in, format_of, if_known, lock_in, lock_keys, only_text, tool_in}
use Rattle.pylock.specs.Tables.{array_of, only_key, package_data, table_of, tool_data}
use Rattle.pylock.proofs.KeyFacts.{at_keys, is_at_keys}
use Rattle.pylock.proofs.FormsAreExact.{both, found-is, str-is, array-is, text-is}
use Rattle.pylock.proofs.EntriesAreExact.{distinct-tool, distinct-snapshot, distinct-lock, one-key, entries-is}

only-cases : (ds : Items) (t : List ℕ) → only_text ds ≡ Some t → ds ≡ item (string t) no_items
only-cases no_items t h = absurd cc
only-cases (item d no_items) t h = let e : Some d ≡ Some (string t) = str-is (Some d) t h in let g : d ≡ string t = cc in ap (λ c. item c no_items) g
only-cases (item d (item e ds)) t h = absurd cc

environment-is : (o : Option Data) (t : List ℕ) → environment_in o ≡ Ok t → o ≡ Some (array_of string (t ∷ []))
unfolding environment_in
environment-is o t h =
    let a = both (found (option_and_then as_array o)) _ t h in
    array-is o a.value (found-is (option_and_then as_array o) a.value a.first)
    ∙ ap (λ ds. Some (array ds)) (only-cases a.value t (found-is (only_text a.value) t a.next))

test-is : (word : List ℕ) (o : Option (List ℕ)) (u : ⊤) → option_and_then (λ t. if bytes_eq t word then Some tt else None) o ≡ Some u → o ≡ Some word
test-is word None u h = absurd cc
test-is word (Some t) u h = elim (cases_Bool (bytes_eq t word)) [
  | inl same ↦ ap Some ((bytes_eq-Decides t word).0 same)
  | inr other ↦ absurd (let g = (rw other at h) in cc)
]

creator-is : (o : Option Data) (u : ⊤) → creator_in o ≡ Ok u → o ≡ Some (string (codes "reqlock"))
creator-is o u h = str-is o (codes "reqlock") (test-is (codes "reqlock") (option_and_then as_str o) u (found-is (option_and_then (λ t. if bytes_eq t (codes "reqlock") then Some tt else None) (option_and_then as_str o)) u h))

lower-is : (text : List ℕ) (r : Result (List ℕ) FromHexError) (digest : List ℕ) → if_lower text r ≡ Ok digest → text ≡ encode_lower digest
lower-is text (Err e) digest h = absurd cc
lower-is text (Ok bytes) digest h = elim (cases_Bool (bytes_eq (encode_lower bytes) text)) [
  | inl same ↦
      let g : Ok bytes ≡ Ok digest = (rw same at h) in
      let e : bytes ≡ digest = cc in
      sym ((bytes_eq-Decides (encode_lower bytes) text).0 same) ∙ ap (λ b. encode_lower b) e
  | inr other ↦ absurd (let g = (rw other at h) in cc)
]

tool-is : (o : Option Data) (digest : List ℕ) → tool_in o ≡ Ok digest → o ≡ Some (tool_data digest)
unfolding tool_in tool_data
tool-is o digest h =
    let a = both (found o) _ digest h in
    let tools = both (table_with (codes "reqlock" ∷ []) a.value) _ digest a.next in
    let own = both (found (get_member (codes "reqlock") tools.value)) _ digest tools.next in
    let ms = both (table_with (codes "snapshot" ∷ []) own.value) _ digest own.next in
    let text = both (text_at (codes "snapshot") ms.value) lower_digest digest ms.next in
    let lower = lower-is text.value (decode_sized text.value 32) digest text.next in
    let inner = one-key (codes "snapshot") own.value (string text.value) ms.value distinct-snapshot ms.first (text-is (codes "snapshot") ms.value text.value text.first) in
    let outer = one-key (codes "reqlock") a.value own.value tools.value distinct-tool tools.first (found-is (get_member (codes "reqlock") tools.value) own.value own.first) in
    found-is o a.value a.first ∙ ap Some (outer ∙ ap (only_key (codes "reqlock")) (inner ∙ ap (λ t. only_key (codes "snapshot") (string t)) lower))

key-is : {A : Type 0} (key : List ℕ) (r : Result A Flaw) (x : A) → at_key key r ≡ Ok x → r ≡ Ok x
key-is key (Ok y) x h = let e : y ≡ x = cc in ap Ok e
key-is key (Err e) x h = absurd cc

format-cases : (o : Option (List ℕ)) (u : ⊤) → format_of o ≡ Ok u → o ≡ Some (codes "1.0")
format-cases None u h = absurd cc
format-cases (Some t) u h = elim (cases_Bool (bytes_eq t (codes "1.0"))) [
  | inl same ↦ ap Some ((bytes_eq-Decides t (codes "1.0")).0 same)
  | inr other ↦ absurd (let g = (rw other at h) in cc)
]

format-is : (o : Option Data) (u : ⊤) → format_of (option_and_then as_str o) ≡ Ok u → o ≡ Some (string (codes "1.0"))
format-is o u h = str-is o (codes "1.0") (format-cases (option_and_then as_str o) u h)

known-is : (o : Option (List ℕ)) (u : ⊤) → if_known o ≡ Ok u → o ≡ None
known-is None u h = refl
known-is (Some k) u h = absurd cc

keys-lock : (ms : Members) (l : LockParts) → get_member (codes "created-by") ms ≡ Some (string (codes "reqlock")) → get_member (codes "environments") ms ≡ Some (array_of string (l.environment ∷ []))
    → get_member (codes "lock-version") ms ≡ Some (string (codes "1.0")) → get_member (codes "packages") ms ≡ Some (array_of package_data l.entries)
    → get_member (codes "tool") ms ≡ Some (tool_data l.snapshot) → at_keys lock_keys ms ≡ table_of l
keys-lock ms l h1 h2 h3 h4 h5 = rw (h1, h2, h3, h4, h5) refl

-- a table that is read as a lock is the table of that lock
pub lock-is : (ms : Members) (l : LockParts) → lock_in ms ≡ Ok l → ms ≡ table_of l
unfolding lock_in
lock-is ms l h =
    let f = both (format_of (option_and_then as_str (get_member (codes "lock-version") ms))) _ l h in
    let e = both (at_key (codes "environments") (environment_in (get_member (codes "environments") ms))) _ l f.next in
    let c = both (at_key (codes "created-by") (creator_in (get_member (codes "created-by") ms))) _ l e.next in
    let p = both (at_key (codes "packages") (entries_in (get_member (codes "packages") ms))) _ l c.next in
    let t = both (at_key (codes "tool") (tool_in (get_member (codes "tool") ms))) _ l p.next in
    let k = both (if_known (unknown_in lock_keys ms)) _ l t.next in
    let is : record { environment = e.value; snapshot = t.value; entries = p.value } ≡ l = let g = k.next in cc in
    let whole = is_at_keys lock_keys ms distinct-lock (known-is (unknown_in lock_keys ms) k.value k.first) in
    let known = keys-lock ms (record { environment = e.value; snapshot = t.value; entries = p.value })
    (creator-is (get_member (codes "created-by") ms) c.value (key-is (codes "created-by") _ c.value c.first))
    (environment-is (get_member (codes "environments") ms) e.value (key-is (codes "environments") _ e.value e.first))
    (format-is (get_member (codes "lock-version") ms) f.value f.first)
    (entries-is (get_member (codes "packages") ms) p.value (key-is (codes "packages") _ p.value p.first))
    (tool-is (get_member (codes "tool") ms) t.value (key-is (codes "tool") _ t.value t.first)) in
    whole ∙ known ∙ ap table_of is
