-- Masks of features with ranges.
use Rattle.std.proofs.Common.{ℕ, ◌≡◌, List, [], ◌∷◌, ◌+◌, ◌<◌, length, map, take, drop, get_or, Ok, refl, sym, ap, subst, ◌∙◌}
use Rattle.std.proofs.lemmas.List.{drop_more, length-map}
use Rattle.buffer_glyphs.specs.declared.info.hb_glyph_info_t.{hb_glyph_info_t}
use Rattle.buffer_glyphs.specs.Items.{Item, clusters}
use Rattle.buffer_glyphs.specs.Origins.{Origin, origin_of, origins}
use Rattle.buffer_core.specs.Readings.{View, always, with_events}
use Rattle.buffer_core.specs.Masks.{glyph_set, items_set, with_set_masks}
use Rattle.buffer_core.specs.Sides.{Sides, all_glyphs, items_of, origins_of, settings_of, stage_flags, view_of}
use Rattle.buffer_stages.specs.Ready.{IsReady}
use Rattle.buffer_stages.specs.Lemmas.Written.{becomes_followed}
use Rattle.buffer_stages.specs.Stages.{Becomes, IsFollowed}
use Rattle.buffer_tags.specs.declared.feature.Feature.{Feature}
use Rattle.layout_map.specs.Compiled.{OtMapValue}
use Rattle.shape_text.specs.Ranges.{with_all_ranges, with_range, with_ranges}

abbrev seen_with : List Item → Sides → View
seen_with xs n = record { items = xs; positions = n.positions; lig_id = n.lig_id; max_ops = n.max_ops; random = 1; max_len = n.max_len; direction = n.direction; scratch_flags = stage_flags n.scratch_flags }

-- the origins of glyphs determine their clusters
clusters_told : (gs : List hb_glyph_info_t) → clusters gs ≡ map (λ (o : Origin). o.cluster) (origins gs)
clusters_told [] = refl
clusters_told (g ∷ gs) = ap (λ ns. g.cluster ∷ ns) (clusters_told gs)

clusters_from : (gs hs : List hb_glyph_info_t) → origins gs ≡ origins hs → clusters gs ≡ clusters hs
clusters_from gs hs e = clusters_told gs ∙ ap (λ os. map (λ (o : Origin). o.cluster) os) e ∙ sym (clusters_told hs)

pub set_becomes : (v m start end : ℕ) (s new : Sides) → new ≡ with_set_masks v m start end s → items_of new ≡ items_set v m start end (clusters (all_glyphs s)) (items_of s)
    → origins_of new ≡ origins_of s → IsReady s → Becomes (items_set v m start end (clusters (all_glyphs s)) (items_of s)) s.positions s new
set_becomes v m start end s new e items from ready =
    let same : length (all_glyphs s) ≡ length (all_glyphs new) =
    sym (length-map (all_glyphs s) origin_of) ∙ ap (λ (os : List Origin). length os) (sym from) ∙ length-map (all_glyphs new) origin_of in
    record {
      view = ap (seen_with (items_of new)) e ∙ ap (λ xs. seen_with xs s) items;
      origins = from;
      settings = ap settings_of e;
      ready = record {
        closed = ap (λ (n : Sides). n.is_open) e ∙ ready.closed;
        front = ap (λ (n : Sides). n.behind) e ∙ ap (λ (ys : List hb_glyph_info_t). take (length ys) (map (glyph_set v m start end) (all_glyphs s))) ready.front;
        unread = ap (λ (n : Sides). n.read) e ∙ ready.unread;
        placed = ap (λ (n : Sides). length n.positions) e ∙ ready.placed ∙ same;
        unrefused = ap (λ (n : Sides). n.has_refused) e ∙ ready.unrefused;
      };
    }

-- ---- feature after feature

-- so much is left to do of all, and items alone have changed
pub record OnTheWay (map : OtMapValue) (all left : List Feature) (start now : Sides) : Type 0 where
  pub whole : with_all_ranges map left (clusters (all_glyphs now)) (items_of now) ≡ with_all_ranges map all (clusters (all_glyphs start)) (items_of start)
  pub became : Becomes (items_of now) start.positions start now

pub begins : (map : OtMapValue) (fs : List Feature) (s : Sides) → IsReady s → OnTheWay map fs fs s s
begins map fs s ready = record { whole = refl; became = record { view = refl; origins = refl; settings = refl; ready = ready } }

goes_on : (map : OtMapValue) (all left : List Feature) (f : Feature) (start now new : Sides) → OnTheWay map all (f ∷ left) start now
    → Becomes (with_range map f (clusters (all_glyphs now)) (items_of now)) now.positions now new → OnTheWay map all left start new
goes_on map all left f start now new way b =
    let items : items_of new ≡ with_range map f (clusters (all_glyphs now)) (items_of now) = ap (λ (v : View). v.items) b.view in
    let same : clusters (all_glyphs new) ≡ clusters (all_glyphs now) = clusters_from (all_glyphs new) (all_glyphs now) b.origins in
    record {
      whole = ap (λ ns. with_all_ranges map left ns (items_of new)) same ∙ ap (λ xs. with_all_ranges map left (clusters (all_glyphs now)) xs) items ∙ way.whole;
      became = record {
        view = b.view ∙ ap (λ (v : View). record v { items = with_range map f (clusters (all_glyphs now)) (items_of now) }) way.became.view
            ∙ ap (λ xs. record (view_of start) { items = xs }) (sym items);
        origins = b.origins ∙ way.became.origins;
        settings = b.settings ∙ way.became.settings;
        ready = b.ready;
      };
    }

pub goes_on_at : (map : OtMapValue) (all : List Feature) (i : ℕ) (d : Feature) (start now new : Sides) → i < length all → OnTheWay map all (drop i all) start now
    → Becomes (with_range map (get_or all i d) (clusters (all_glyphs now)) (items_of now)) now.positions now new → OnTheWay map all (drop (i + 1) all) start new
goes_on_at map all i d start now new lt way b =
    goes_on map all (drop (i + 1) all) (get_or all i d) start now new (subst (λ fs. OnTheWay map all fs start now) (drop_more all i d lt) way) b

pub ends : (map : OtMapValue) (fs : List Feature) (start now : Sides) → OnTheWay map fs [] start now
    → IsFollowed (always (with_ranges map fs (clusters (all_glyphs start)))) start now
ends map fs start now way =
    becomes_followed (items_of now) start.positions start now (always (with_ranges map fs (clusters (all_glyphs start)))) way.became
    (ap (λ xs. Ok (with_events [] (record (view_of start) { items = xs }))) (sym way.whole))
