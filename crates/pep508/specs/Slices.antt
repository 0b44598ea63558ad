-- The slices of a requirement line (PEP 508, "Grammar"; pip, "Requirements File Format").
use Rattle.std.specs.Prelude.{◌≡◌, ◌⊎◌, ℕ, suc, ◌-◌, ◌==◌, not, Bool, true, false, List, [], ◌++◌, length, take, drop, slice_index, if◌then◌else◌}
use Rattle.std.specs.List.{list_all, prefix_len, take_while}
use Rattle.markers.specs.Names.{is_name_byte}
use Rattle.pep508.specs.Parts.{begins_with, before_comment, comment_of, content_of, ending_of, is_space_or_tab, lead_of, place_of, tail_of, trim, trim_end, trim_start}

-- what a line is made of, in its order. The gaps are spaces and tabs.
pub record Slices : Type 0 where
  pub lead : List ℕ
  pub name : List ℕ
  pub gap1 : List ℕ
  pub extras : List ℕ
  pub gap2 : List ℕ
  pub version : List ℕ
  pub gap3 : List ℕ
  pub marker : List ℕ
  pub gap4 : List ℕ
  pub comment : List ℕ
  pub end : List ℕ

-- whether extras follow: `[` behind space
abbrev pub has_extras : List ℕ → Bool
has_extras text = begins_with 91 (trim_start text)

-- extras up to the first `]`, with the space before them, and what follows
abbrev pub extras_gap : List ℕ → List ℕ
extras_gap text = if has_extras text then lead_of text else []

abbrev pub extras_part : List ℕ → List ℕ
extras_part text = if has_extras text then take (suc (place_of 93 (trim_start text))) (trim_start text) else []

abbrev pub behind_extras : List ℕ → List ℕ
behind_extras text = if has_extras text then drop (suc (place_of 93 (trim_start text))) (trim_start text) else text

-- what stands before the first `;`, and what stands from there
abbrev pub version_field : List ℕ → List ℕ
version_field text = take (place_of 59 text) text

abbrev pub marker_field : List ℕ → List ℕ
marker_field text = drop (place_of 59 text) text

-- the slices of a text that no space leads, with what stands around it
unfoldable pub slices_with : List ℕ → List ℕ → List ℕ → List ℕ → Slices
slices_with lead text comment ending =
    let behind_name = drop (prefix_len is_name_byte text) text in
    let rest = behind_extras behind_name in
    let version = version_field rest in
    let marker = marker_field rest in
    record {
      lead = lead;
      name = take_while is_name_byte text;
      gap1 = extras_gap behind_name;
      extras = extras_part behind_name;
      gap2 = lead_of (trim_end version);
      version = trim version;
      gap3 = if length marker == 0 then [] else tail_of version;
      marker = trim_end marker;
      gap4 = if length marker == 0 then tail_of version else tail_of marker;
      comment = comment;
      end = ending;
    }

-- what a line asks for stands behind its lead and before its comment
abbrev pub asking : List ℕ → List ℕ
asking content = trim_start (before_comment content)

-- the slices of a line
unfoldable pub slices_of : List ℕ → Slices
slices_of line = slices_with (lead_of (before_comment (content_of line))) (asking (content_of line)) (comment_of (content_of line)) (ending_of line)

-- the line that slices join to
abbrev pub joined : Slices → List ℕ
joined s =
    s.lead ++ s.name ++ s.gap1 ++ s.extras ++ s.gap2 ++ s.version ++ s.gap3 ++ s.marker ++ s.gap4 ++ s.comment ++ s.end

-- the slices with another version part
abbrev pub with_version : List ℕ → Slices → Slices
with_version version s = record s { version = version }

-- what stands behind the name, up to the comment
abbrev pub behind : Slices → List ℕ
behind s = s.gap1 ++ (s.extras ++ (s.gap2 ++ (s.version ++ (s.gap3 ++ (s.marker ++ s.gap4)))))

-- extras are nothing, or `[` up to the first `]`
abbrev pub IsExtrasSlice : List ℕ → Type 0
IsExtrasSlice extras = (extras ≡ []) ⊎ ((begins_with 91 extras ≡ true) × (suc (place_of 93 extras) ≡ length extras))

-- a version part has no `;` in it and no space around it, and without extras before it no `[` begins it
pub record IsVersionSlice (extras version : List ℕ) : Type 0 where
  pub ends : list_all (λ b. not (b == 59)) version ≡ true
  pub first : is_space_or_tab (slice_index version 0) ≡ false
  pub last : is_space_or_tab (slice_index version (length version - 1)) ≡ false
  pub no_extras : extras ≡ [] → begins_with 91 version ≡ false

-- a marker's slice is nothing, or begins with `;` and doesn't end with space
abbrev pub IsMarkerSlice : List ℕ → Type 0
IsMarkerSlice marker = (marker ≡ []) ⊎ ((begins_with 59 marker ≡ true) × (is_space_or_tab (slice_index marker (length marker - 1)) ≡ false))

-- these are the slices of the line: they join to it, in their order; the end and the comment are its own, the
-- name is as long as can be, gaps are spaces and tabs, and there is none before a part that is absent
pub record IsCut (line : List ℕ) (s : Slices) : Type 0 where
  pub joins : joined s ≡ line
  pub end : s.end ≡ ending_of line
  pub comment : s.comment ≡ comment_of (content_of line)
  pub gaps : list_all is_space_or_tab (s.lead ++ (s.gap1 ++ (s.gap2 ++ (s.gap3 ++ s.gap4)))) ≡ true
  pub name : s.name ≡ take_while is_name_byte (s.name ++ behind s)
  pub extras : IsExtrasSlice s.extras
  pub version : IsVersionSlice s.extras s.version
  pub marker : IsMarkerSlice s.marker
  pub no_name : s.name ≡ [] → behind s ≡ []
  pub no_extras : s.extras ≡ [] → s.gap1 ≡ []
  pub no_version : s.version ≡ [] → s.gap2 ≡ []
  pub no_marker : s.marker ≡ [] → s.gap3 ≡ []
