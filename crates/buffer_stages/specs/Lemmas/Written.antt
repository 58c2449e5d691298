-- Buffers whose glyphs or positions were written one by one.
use Rattle.std.proofs.Common.{◌≡◌, ◌==◌, List, [], Ok, map, length, take, drop, refl, sym, ap, subst, ◌∙◌}
use Rattle.std.specs.Prelude.{bit_and}
use Rattle.std.proofs.lemmas.List.{take_at, take-append-drop, length-map}
use Rattle.buffer_glyphs.specs.declared.info.hb_glyph_info_t.{hb_glyph_info_t}
use Rattle.buffer_glyphs.specs.Items.{Item, Position, item_of, strip}
use Rattle.buffer_glyphs.specs.Events.{Event, origins_after}
use Rattle.buffer_glyphs.specs.Origins.{origins}
use Rattle.buffer_core.specs.Readings.{Read, View, Stage, always, with_events, Follows}
use Rattle.buffer_core.specs.Steps.{follows_events}
use Rattle.buffer_core.specs.Sides.{Sides, all_glyphs, flag_requests_of, items_of, origins_by, origins_of, view_of, state_of, Settings, settings_of}
use Rattle.buffer_core.specs.Lending.{refilled_list, with_refilled, with_positions_refilled}
use Rattle.buffer_stages.specs.Ready.{IsReady}
use Rattle.buffer_stages.specs.Stages.{IsFollowed, Happens, Becomes, AreMapped, with_items_mapped}

-- a list of the same length replaces the whole list
pub refilled_whole : {X : Type 0} (new old : List X) → length new ≡ length old → refilled_list new old ≡ new
refilled_whole new old e = take_at new (drop (length new) old) (length old) e

pub written_all : (gs : List hb_glyph_info_t) (s : Sides) → length gs ≡ length (all_glyphs s) → all_glyphs (with_refilled gs s) ≡ gs
written_all gs s e = take-append-drop (length s.behind) (refilled_list gs (all_glyphs s)) ∙ refilled_whole gs (all_glyphs s) e

pub written_ready : (gs : List hb_glyph_info_t) (s : Sides) → length gs ≡ length (all_glyphs s) → IsReady s → IsReady (with_refilled gs s)
written_ready gs s e ready = record {
  closed = ready.closed;
  front = ap (λ (ys : List hb_glyph_info_t). take (length ys) (refilled_list gs (all_glyphs s))) ready.front;
  unread = ready.unread;
  placed = ready.placed ∙ sym e ∙ ap (λ (ys : List hb_glyph_info_t). length ys) (sym (written_all gs s e));
  unrefused = ready.unrefused;
}

-- glyphs that were written, of which each keeps where it comes from
pub written_becomes : (gs : List hb_glyph_info_t) (s : Sides) (xs : List Item) → length gs ≡ length (all_glyphs s) → strip gs ≡ xs → origins gs ≡ origins_of s → IsReady s → Becomes xs s.positions s (with_refilled gs s)
written_becomes gs s xs e items from ready = record {
  view = ap (λ (ys : List hb_glyph_info_t). record (view_of s) { items = strip ys }) (written_all gs s e) ∙ ap (λ ys. record (view_of s) { items = ys }) items;
  origins = ap origins (written_all gs s e) ∙ from;
  settings = refl;
  ready = written_ready gs s e ready;
}

same_many : (gs hs : List hb_glyph_info_t) (f : Item → Item) → strip gs ≡ map f (strip hs) → length gs ≡ length hs
same_many gs hs f e = sym (length-map gs item_of) ∙ ap (λ (ys : List Item). length ys) e ∙ length-map (strip hs) f ∙ length-map hs item_of

-- glyphs that were written, each by a map of items
pub mapped_becomes : (gs : List hb_glyph_info_t) (s : Sides) (f : Item → Item) → strip gs ≡ map f (items_of s) → origins gs ≡ origins_of s → IsReady s → Becomes (map f (items_of s)) s.positions s (with_refilled gs s)
mapped_becomes gs s f items from ready = written_becomes gs s (map f (items_of s)) (same_many gs (all_glyphs s) f items) items from ready

-- what happens to the origins of the glyphs, beside what becomes of them, is a stage
pub happened_followed : (es : List Event) (v : View) (stage : Stage) (old new : Sides) → view_of new ≡ v → (state_of new).origins ≡ (origins_after (state_of old).asks old.level es (state_of old).origins)
    → settings_of new ≡ settings_of old → IsReady new → stage (view_of old) ≡ Ok (with_events es v) → IsFollowed stage old new
happened_followed es v stage old new view from settings ready e = record {
  follows =
      let asks = ap (λ (st : Settings). record { concat = bit_and st.flags.0 64 == 64; tatweel = bit_and st.flags.0 128 == 128; breaks = bit_and st.flags.0 256 == 256 }) settings in
      subst (λ q. Follows q (state_of old) (state_of new)) (sym e) (follows_events es v (state_of old) (state_of new) view from (ap (λ (st : Settings). st.level) settings) asks);
  settings = settings;
  ready = ready;
}

-- what becomes of items and positions alone is a stage
pub becomes_followed : (xs : List Item) (ps : List Position) (old new : Sides) (stage : Stage) → Becomes xs ps old new → stage (view_of old) ≡ Ok (with_events [] (record (view_of old) { items = xs; positions = ps })) → IsFollowed stage old new
becomes_followed xs ps old new stage b e = happened_followed [] (record (view_of old) { items = xs; positions = ps }) stage old new b.view b.origins b.settings b.ready e

-- what happens and no more is a stage
pub happens_followed : (es : List Event) (old new : Sides) (stage : Stage) → Happens es old new → stage (view_of old) ≡ Ok (with_events es (view_of old)) → IsFollowed stage old new
happens_followed es old new stage h e = happened_followed es (view_of old) stage old new h.view h.origins h.settings h.ready e

-- glyphs that were mapped
pub mapped_followed : (k : Item → Item) (gs : List hb_glyph_info_t) (s : Sides) → AreMapped k (all_glyphs s) gs → IsReady s → IsFollowed (always (with_items_mapped k)) s (with_refilled gs s)
mapped_followed k gs s m ready = becomes_followed (map k (items_of s)) s.positions s (with_refilled gs s) (always (with_items_mapped k)) (mapped_becomes gs s k m.items m.origins ready) refl

-- a stage whose events may depend on the level
pub read_followed : (r : View → Read) (es : List Event) (v : View) (old new : Sides) → view_of new ≡ v → origins_of new ≡ origins_by es old → settings_of new ≡ settings_of old → IsReady new
    → (r (view_of old)).view ≡ v → (r (view_of old)).events old.level ≡ es → IsFollowed (always r) old new
read_followed r es v old new view from settings ready e f = record {
  follows =
      let asks = ap (λ (st : Settings). record { concat = bit_and st.flags.0 64 == 64; tatweel = bit_and st.flags.0 128 == 128; breaks = bit_and st.flags.0 256 == 256 }) settings in
      follows_events es v (state_of old) (state_of new) view from (ap (λ (st : Settings). st.level) settings) asks
      ∙ ap (λ w. record { view = w; origins = origins_by es old; level = old.level; asks = flag_requests_of old }) (sym e)
      ∙ ap (λ fs. record { view = (r (view_of old)).view; origins = origins_by fs old; level = old.level; asks = flag_requests_of old }) (sym f);
  settings = settings;
  ready = ready;
}
