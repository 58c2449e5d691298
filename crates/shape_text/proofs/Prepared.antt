-- The properties of a text's characters, one after another.
use Rattle.std.proofs.Common.{ℕ, zero, suc, ◌≡◌, ◌<◌, ◌≤◌, ◌+◌, ◌==◌, Bool, nat_le, true, false, List, [], ◌∷◌, ◌++◌, Option, Some, None, length, take, drop, set, get_or, arith, add-one, refl, sym, ap, ◌∙◌}
use Rattle.std.specs.Prelude.{bit_and, bit_or}
use Rattle.buffer_glyphs.specs.declared.info.hb_glyph_info_t.{hb_glyph_info_t}
use Rattle.buffer_glyphs.specs.Items.{clusters, item_of, strip}
use Rattle.buffer_glyphs.specs.Origins.{origins}
use Rattle.std.proofs.lemmas.List.{at_drop_more, drop-set-lt, drop_all, take_all, append-nil}
use Rattle.std.proofs.lemmas.Bool.{and_parts}
use Rattle.std.proofs.lemmas.Nat.Bits.{same_from_bits, bit_at_and, bit_at_or}
use Rattle.buffer_unicode_tables.specs.Tables.{Tables}
use Rattle.shape_text.specs.declared.graphemes.Before.{Before}
use Rattle.shape_text.specs.Graphemes.{continues}
use Rattle.buffer_core.specs.Readings.{View, always}
use Rattle.buffer_properties.specs.Properties.{scratch_flags_of, bit_if}
use Rattle.buffer_unicode.specs.Character.{is_default_ignorable_character}
use Rattle.buffer_core.specs.Sides.{Sides, all_glyphs, items_of, stage_flags, view_of, with_scratch_flags}
use Rattle.buffer_core.specs.Lending.{with_refilled}
use Rattle.buffer_stages.specs.Ready.{IsReady}
use Rattle.buffer_stages.specs.Stages.{IsFollowed}
use Rattle.buffer_stages.specs.Lemmas.Written.{written_becomes, happened_followed}
use Rattle.shape_text.specs.Properties.{are_characters, is_character, with_properties, glyph_prepared, glyphs_prepared, scratch_flags_of_glyphs, next_before, items_prepared, scratch_flags_of_items}
use Rattle.buffer_facts.proofs.Bits.{and_of_or as and_or}

-- glyphs of which the first so many are prepared
prepared_suc : (t : Tables) (before : Option Before) (i : ℕ) (ys : List hb_glyph_info_t) (d : hb_glyph_info_t) → i < length ys
    → take (suc i) (set ys i (glyph_prepared t (continues t before (get_or ys i d).glyph_id) (get_or ys i d))) ++ glyphs_prepared t (Some (next_before t before (get_or ys i d).glyph_id)) (drop (suc i) (set ys i (glyph_prepared t (continues t before (get_or ys i d).glyph_id) (get_or ys i d)))) ≡ take i ys ++ glyphs_prepared t before (drop i ys)
prepared_suc t before i [] d lt = absurd (omega arith)
prepared_suc t before zero (y ∷ ys) d lt = refl
prepared_suc t before (suc i) (y ∷ ys) d lt = ap (λ zs. y ∷ zs) (prepared_suc t before i ys d (omega arith))

pub prepared_step : (t : Tables) (before : Option Before) (i : ℕ) (ys : List hb_glyph_info_t) (d : hb_glyph_info_t) → i < length ys
    → take (i + 1) (set ys i (glyph_prepared t (continues t before (get_or ys i d).glyph_id) (get_or ys i d))) ++ glyphs_prepared t (Some (next_before t before (get_or ys i d).glyph_id)) (drop (i + 1) (set ys i (glyph_prepared t (continues t before (get_or ys i d).glyph_id) (get_or ys i d)))) ≡ take i ys ++ glyphs_prepared t before (drop i ys)
prepared_step t before i ys d lt = rw add-one (prepared_suc t before i ys d lt)

pub prepared_items : (t : Tables) (before : Option Before) (gs : List hb_glyph_info_t) → strip (glyphs_prepared t before gs) ≡ items_prepared t before (strip gs)
prepared_items t before [] = refl
prepared_items t before (g ∷ gs) = rw (prepared_items t (Some (next_before t before g.glyph_id)) gs) refl

pub prepared_origins : (t : Tables) (before : Option Before) (gs : List hb_glyph_info_t) → origins (glyphs_prepared t before gs) ≡ origins gs
prepared_origins t before [] = refl
prepared_origins t before (g ∷ gs) = rw (prepared_origins t (Some (next_before t before g.glyph_id)) gs) refl

pub prepared_clusters : (t : Tables) (before : Option Before) (gs : List hb_glyph_info_t) → clusters (glyphs_prepared t before gs) ≡ clusters gs
prepared_clusters t before [] = refl
prepared_clusters t before (g ∷ gs) = rw (prepared_clusters t (Some (next_before t before g.glyph_id)) gs) refl

pub prepared_length : (t : Tables) (before : Option Before) (gs : List hb_glyph_info_t) → length (glyphs_prepared t before gs) ≡ length gs
prepared_length t before [] = refl
prepared_length t before (g ∷ gs) = rw (prepared_length t (Some (next_before t before g.glyph_id)) gs) refl

-- ---- the loop

-- glyphs of which the first so many are prepared
pub record ArePrepared (t : Tables) (i : ℕ) (before : Option Before) (scratch_flags from : ℕ) (hs xs : List hb_glyph_info_t) : Type 0 where
  pub glyphs : take i xs ++ glyphs_prepared t before (drop i xs) ≡ glyphs_prepared t None hs
  pub tells : scratch_flags_of_glyphs (drop i xs) scratch_flags ≡ scratch_flags_of_glyphs hs from
  pub characters : are_characters (strip (drop i xs)) ≡ true

pub none_prepared : (t : Tables) (scratch_flags : ℕ) (hs : List hb_glyph_info_t) → are_characters (strip hs) ≡ true → ArePrepared t 0 None scratch_flags scratch_flags hs hs
none_prepared t scratch_flags hs e = record { glyphs = refl; tells = refl; characters = e }

first_character : (g : hb_glyph_info_t) (gs : List hb_glyph_info_t) → are_characters (strip (g ∷ gs)) ≡ true → (is_character (item_of g) ≡ true) × (are_characters (strip gs) ≡ true)
first_character g gs e = and_parts (is_character (item_of g)) (are_characters (strip gs)) e

-- the next of them is a character
pub next_character : (t : Tables) (i : ℕ) (before : Option Before) (scratch_flags from : ℕ) (hs xs : List hb_glyph_info_t) (d : hb_glyph_info_t) → i < length xs → ArePrepared t i before scratch_flags from hs xs → is_character (item_of (get_or xs i d)) ≡ true
next_character t i before scratch_flags from hs xs d lt p = (first_character (get_or xs i d) (drop (i + 1) xs) (sym (at_drop_more (λ ys. are_characters (strip ys)) xs i d lt) ∙ p.characters)).0

pub next_prepared : (t : Tables) (i : ℕ) (before : Option Before) (scratch_flags from : ℕ) (hs xs : List hb_glyph_info_t) (d : hb_glyph_info_t) → i < length xs → ArePrepared t i before scratch_flags from hs xs
    → ArePrepared t (i + 1) (Some (next_before t before (get_or xs i d).glyph_id)) (bit_or scratch_flags (scratch_flags_of (get_or xs i d).glyph_id)) from hs (set xs i (glyph_prepared t (continues t before (get_or xs i d).glyph_id) (get_or xs i d)))
next_prepared t i before scratch_flags from hs xs d lt p =
    let x = glyph_prepared t (continues t before (get_or xs i d).glyph_id) (get_or xs i d) in
    let rest : drop (i + 1) (set xs i x) ≡ drop (i + 1) xs = drop-set-lt (i + 1) xs i x (omega arith) in
    record {
      glyphs = prepared_step t before i xs d lt ∙ p.glyphs;
      tells = ap (λ ys. scratch_flags_of_glyphs ys (bit_or scratch_flags (scratch_flags_of (get_or xs i d).glyph_id))) rest ∙ sym (at_drop_more (λ ys. scratch_flags_of_glyphs ys scratch_flags) xs i d lt) ∙ p.tells;
      characters = ap (λ ys. are_characters (strip ys)) rest ∙ (first_character (get_or xs i d) (drop (i + 1) xs) (sym (at_drop_more (λ ys. are_characters (strip ys)) xs i d lt) ∙ p.characters)).1;
    }

-- all of them
pub all_prepared : (t : Tables) (i : ℕ) (before : Option Before) (scratch_flags from : ℕ) (hs xs : List hb_glyph_info_t) → length xs ≤ i → ArePrepared t i before scratch_flags from hs xs → (xs ≡ glyphs_prepared t None hs) × (scratch_flags ≡ scratch_flags_of_glyphs hs from)
all_prepared t i before scratch_flags from hs xs le p =
    let rest = drop_all i xs le in
    (sym (ap (λ ys. take i xs ++ glyphs_prepared t before ys) rest ∙ append-nil (take i xs) ∙ take_all i xs le) ∙ p.glyphs, sym (ap (λ ys. scratch_flags_of_glyphs ys scratch_flags) rest) ∙ p.tells)

-- ---- the scratch flags that characters set

bits_within : (a b c : Bool) → bit_and (bit_if a 1 + (bit_if b 2 + bit_if c 16)) 0xFFFF_FFDF ≡ bit_if a 1 + (bit_if b 2 + bit_if c 16)
bits_within true true true = refl
bits_within true true false = refl
bits_within true false true = refl
bits_within true false false = refl
bits_within false true true = refl
bits_within false true false = refl
bits_within false false true = refl
bits_within false false false = refl

pub told_once : (scratch_flags u : ℕ) → stage_flags (bit_or scratch_flags (scratch_flags_of u)) ≡ bit_or (stage_flags scratch_flags) (scratch_flags_of u)
told_once scratch_flags u = and_or 0xFFFF_FFDF scratch_flags (scratch_flags_of u) ∙ ap (λ k. bit_or (stage_flags scratch_flags) k) (bits_within (nat_le 0x80 u) (is_default_ignorable_character u) (u == 0x034F))

told_all : (gs : List hb_glyph_info_t) (scratch_flags : ℕ) → stage_flags (scratch_flags_of_glyphs gs scratch_flags) ≡ scratch_flags_of_items (strip gs) (stage_flags scratch_flags)
told_all [] scratch_flags = refl
told_all (g ∷ gs) scratch_flags = told_all gs (bit_or scratch_flags (scratch_flags_of g.glyph_id)) ∙ ap (λ f. scratch_flags_of_items (strip gs) f) (told_once scratch_flags g.glyph_id)

-- the whole text, once its glyphs were written
pub prepared_followed : (t : Tables) (gs : List hb_glyph_info_t) (scratch_flags : ℕ) (s : Sides) → gs ≡ glyphs_prepared t None (all_glyphs s) → scratch_flags ≡ scratch_flags_of_glyphs (all_glyphs s) s.scratch_flags
    → IsReady s → IsFollowed (always (with_properties t)) s (with_scratch_flags scratch_flags (with_refilled gs s))
prepared_followed t gs scratch_flags s e f ready =
    let items = ap strip e ∙ prepared_items t None (all_glyphs s) in
    let from = ap origins e ∙ prepared_origins t None (all_glyphs s) in
    let len = ap (λ (ys : List hb_glyph_info_t). length ys) e ∙ prepared_length t None (all_glyphs s) in
    let b = written_becomes gs s (items_prepared t None (items_of s)) len items from ready in
    let tells = ap stage_flags f ∙ told_all (all_glyphs s) s.scratch_flags in
    let v : View = record (view_of s) { items = items_prepared t None (items_of s); scratch_flags = scratch_flags_of_items (items_of s) (stage_flags s.scratch_flags) } in
    happened_followed [] v (always (with_properties t)) s (with_scratch_flags scratch_flags (with_refilled gs s))
    (ap (λ (w : View). record w { scratch_flags = stage_flags scratch_flags }) b.view ∙ ap (λ n. record (view_of s) { items = items_prepared t None (items_of s); scratch_flags = n }) tells)
    b.origins b.settings
    (record { closed = b.ready.closed; front = b.ready.front; unread = b.ready.unread; placed = b.ready.placed; unrefused = b.ready.unrefused })
    refl
