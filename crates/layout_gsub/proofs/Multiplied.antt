-- Several glyphs where one was.
use Rattle.std.proofs.Common.{ℕ, ◌≡◌, ◌≤◌, ◌<◌, ◌+◌, ◌-◌, zero, suc, ◌&&◌, min, true, false, nat_le, if◌then◌else◌, Bool, Ok, List, [], ◌∷◌, ◌++◌, length, map, take, drop, replicate, refl, sym, ap, subst, ◌∙◌, arith, append_assoc, add-one, Some, get_or, slice_get}
use Rattle.std.proofs.lemmas.List.{map-append, length-append, length-map, replicate-append-replicate, take_all}
use Rattle.std.proofs.Math.Seq.{take-append_seam, drop-append_seam, drop-append-add}
use Rattle.std.proofs.lemmas.Bool.Decides.{nat_tests}
use Rattle.std.specs.List.{list_all}
use Rattle.buffer_glyphs.specs.declared.cause.ShapeCause.TheVariants.{TooLong}
use Rattle.buffer_glyphs.specs.declared.info.hb_glyph_info_t.{hb_glyph_info_t}
use Rattle.buffer_glyphs.specs.Items.{Item, item_of, strip, clusters}
use Rattle.buffer_glyphs.specs.Parts.{first_of, elements_replaced}
use Rattle.buffer_glyphs.specs.Origins.{Origin, origin_of, origins, origins_merged_as, manner, InList}
use Rattle.buffer_glyphs.specs.Events.{Event, Break, Replace, Delete, StrictBreak, strictly_marked}
use Rattle.buffer_core.specs.Sides.{Sides, items_of, origins_of, origins_by, requests_breaks, has_output_room}
use Rattle.buffer_core.specs.Merging.{with_glyph_passed, with_output_info, with_glyph_skipped}
use Rattle.buffer_core.proofs.HandedOn.{put_origins, skip_passes}
use Rattle.buffer_core.proofs.Told.{stage_flags_ignore_glyph_flags}
use Rattle.buffer_core.specs.Grouping.{with_deleted}
use Rattle.buffer_glyphs.specs.Deleting.{deletion_marks}
use Rattle.layout_face.specs.declared.parts.GlyphDefinition.{GlyphDefinition}
use Rattle.buffer_stages.specs.Actions.{Cut, Acts, Refuses, Action, later}
use Rattle.buffer_stages.specs.Buffers.{are_glyphs, cut_of, frame_of, HasHappened, IsPassed, IsStill}
use Rattle.buffer_stages.specs.Performing.{cut_with, IsPerformed}
use Rattle.buffer_stages.proofs.Lemmas.Performed.{performs_later, same_with}
use Rattle.buffer_stages.proofs.Lemmas.Glyphs.{all_of_both, all_of_front, all_of_back, all_dropped, first_item}
use Rattle.layout_gsub.specs.Putting.{IsPut}
use Rattle.layout_gsub.specs.Multiples.{component_item, component_items, multiplied_item, multiple_substitution, cut_with_multiple, neighbours_flagged, deletion}
use Rattle.layout_gsub.proofs.Replaced.{acts_within, refuses_past}
use Rattle.layout_gsub.proofs.Merged.{one_merged}
use Rattle.buffer_facts.proofs.Truth.{and_true as and_both}

-- one component more
more_items : (gdef : GlyphDefinition) (x : Item) (k i : ℕ) (glyphs : List ℕ) → i < length glyphs → component_items gdef x k (take (suc i) glyphs) ≡ component_items gdef x k (take i glyphs) ++ component_item gdef x (k + i) (get_or glyphs i 0) ∷ []
more_items gdef x k i [] lt = absurd (omega (arith, lt))
more_items gdef x k zero (n ∷ glyphs) lt = let same : k ≡ k + 0 = omega arith in ap (λ j. component_item gdef x j n ∷ []) same
more_items gdef x k (suc i) (n ∷ glyphs) lt =
    let same : k + 1 + i ≡ k + suc i = omega arith in
    ap (λ xs. component_item gdef x k n ∷ xs) (more_items gdef x (k + 1) i glyphs (omega (arith, lt)) ∙ ap (λ j. component_items gdef x (k + 1) (take i glyphs) ++ component_item gdef x j (get_or glyphs i 0) ∷ []) same)

one_of_all : (b : Bool) → (b && true) ≡ true → b ≡ true
one_of_all true e = refl
one_of_all false e = cc

components_small : (gdef : GlyphDefinition) (x : Item) (k : ℕ) (glyphs : List ℕ) → list_all (λ n. nat_le n 65535) glyphs ≡ true → are_glyphs (component_items gdef x k glyphs) ≡ true
components_small gdef x k [] e = refl
components_small gdef x k (n ∷ glyphs) e =
    and_both (nat_le n 65535) (are_glyphs (component_items gdef x (k + 1) glyphs)) (one_of_all (nat_le n 65535) (all_of_front (λ m. nat_le m 65535) (n ∷ []) glyphs e)) (components_small gdef x (k + 1) glyphs (all_of_back (λ m. nat_le m 65535) (n ∷ []) glyphs e))

pub all_small : (glyphs : List ℕ) → ((i : ℕ) → get_or glyphs i 0 ≤ 65535) → list_all (λ n. nat_le n 65535) glyphs ≡ true
all_small [] h = refl
all_small (n ∷ glyphs) h =
    let le = h 0 in
    and_both (nat_le n 65535) (list_all (λ m. nat_le m 65535) glyphs) (grind (arith, nat_tests, le)) (all_small glyphs (λ i. h (suc i)))

-- so many of the glyphs were put behind the output
pub record AreOutput (gdef : GlyphDefinition) (glyphs : List ℕ) (i : ℕ) (g : hb_glyph_info_t) (s now : Sides) : Type 0 where
  pub items : strip now.behind ≡ strip s.behind ++ component_items gdef (item_of g) 0 (take i glyphs)
  pub origin : origins now.behind ≡ origins s.behind ++ replicate i (origin_of g)
  pub count : length now.behind ≡ length s.behind + i
  pub others : now ≡ record s { behind = now.behind; is_apart = now.is_apart }
  pub room : 0 < i → length s.behind + i ≤ s.max_len

pub one_output : (gdef : GlyphDefinition) (glyphs : List ℕ) (i : ℕ) (g : hb_glyph_info_t) (s now next : Sides) → i < length glyphs → AreOutput gdef glyphs i g s now → has_output_room 1 now ≡ true
    → IsPut (component_item gdef (item_of g) i (get_or glyphs i 0)) (origin_of g) now next → AreOutput gdef glyphs (i + 1) g s next
one_output gdef glyphs i g s now next lt a room p =
    let x = item_of g in
    let o = origin_of g in
    let y = component_item gdef x i (get_or glyphs i 0) in
    let here : 0 + i ≡ i = omega arith in
    let more : component_items gdef x 0 (take (suc i) glyphs) ≡ component_items gdef x 0 (take i glyphs) ++ y ∷ [] = more_items gdef x 0 i glyphs lt ∙ ap (λ j. component_items gdef x 0 (take i glyphs) ++ component_item gdef x j (get_or glyphs i 0) ∷ []) here in
    let items : strip next.behind ≡ strip s.behind ++ component_items gdef x 0 (take (suc i) glyphs) = p.items ∙ ap (λ xs. xs ++ y ∷ []) a.items ∙ append_assoc (strip s.behind) (component_items gdef x 0 (take i glyphs)) (y ∷ []) ∙ ap (λ xs. strip s.behind ++ xs) (sym more) in
    let long : length next.behind ≡ length now.behind + 1 = sym (length-map next.behind item_of) ∙ ap length p.items ∙ length-append (strip now.behind) (y ∷ []) ∙ ap (λ n. n + 1) (length-map now.behind item_of) in
    let fits : nat_le (length now.behind + 1) now.max_len ≡ true = room in
    let limit : now.max_len ≡ s.max_len = ap (λ (t : Sides). t.max_len) a.others in
    let count = a.count in
    record {
      items = rw (add-one) items;
      origin = p.origin ∙ ap (λ os. os ++ o ∷ []) a.origin ∙ append_assoc (origins s.behind) (replicate i o) (o ∷ []) ∙ ap (λ os. origins s.behind ++ os) (replicate-append-replicate i 1 o);
      count = omega (arith, count, long);
      others = p.others ∙ ap (λ (t : Sides). record t { behind = next.behind; is_apart = next.is_apart }) a.others;
      room = λ lt. grind (arith, nat_tests, fits, limit, count);
    }

-- the origins of the glyphs
from_one : (n : ℕ) (o : Origin) (front rest : List Origin) → first_of rest ≡ Some o → elements_replaced (length front) 1 n (front ++ rest) ≡ front ++ replicate n o ++ drop 1 rest
from_one n o front rest at = rw (take-append_seam front rest, drop-append_seam front rest, drop-append-add front rest 1, at) refl

first_origin : (gs : List hb_glyph_info_t) (g : hb_glyph_info_t) → slice_get gs 0 ≡ Some g → first_of (origins gs) ≡ Some (origin_of g)
first_origin [] g at = cc
first_origin (h ∷ gs) g at = let same : h ≡ g = cc in ap (λ x. Some (origin_of x)) same

dropped_map : {X Y : Type 0} (f : X → Y) (xs : List X) → map f (drop 1 xs) ≡ drop 1 (map f xs)
dropped_map f [] = refl
dropped_map f (x ∷ xs) = refl

dropped_length : {X : Type 0} (xs : List X) → 0 < length xs → length (drop 1 xs) + 1 ≡ length xs
dropped_length [] lt = absurd (omega (arith, lt))
dropped_length (x ∷ xs) lt = omega arith

-- the last of glyphs of one origin
ends_with : (gs : List hb_glyph_info_t) (os : List Origin) (o : Origin) → origins gs ≡ os ++ o ∷ [] → (front : List hb_glyph_info_t) × (h : hb_glyph_info_t) × (gs ≡ front ++ h ∷ []) × (origin_of h ≡ o)
ends_with [] [] o e = cc
ends_with [] (p ∷ os) o e = cc
ends_with (g ∷ []) [] o e = ([], g, refl, cc)
ends_with (g ∷ k ∷ ks) [] o e = cc
ends_with (g ∷ gs) (p ∷ os) o e =
    let rest = ends_with gs os o (tails e) in
    (g ∷ rest.0, rest.1, ap (λ hs. g ∷ hs) rest.2, rest.3)
  where
    tails : {q r : Origin} {qs rs : List Origin} → q ∷ qs ≡ r ∷ rs → qs ≡ rs
    tails e = cc

first_glyph : (gs : List hb_glyph_info_t) (g : hb_glyph_info_t) → slice_get gs 0 ≡ Some g → gs ≡ g ∷ drop 1 gs
first_glyph [] g at = cc
first_glyph (h ∷ gs) g at = let same : h ≡ g = cc in ap (λ k. k ∷ gs) same

-- a glyph of which others are copies has no flags to hand on
multiplied_passes : (i : ℕ) (o : Origin) (g : hb_glyph_info_t) (t : Sides) (os : List Origin) → 0 < i → origins t.behind ≡ os ++ replicate i o → slice_get t.ahead 0 ≡ Some g → o ≡ origin_of g → with_glyph_skipped t ≡ with_glyph_passed t
multiplied_passes i o g t os some from at same =
    let more : i - 1 + 1 ≡ i = omega (arith, some) in
    let split : os ++ replicate i o ≡ (os ++ replicate (i - 1) o) ++ o ∷ [] = ap (λ k. os ++ replicate k o) (sym more) ∙ ap (λ ys. os ++ ys) (sym (replicate-append-replicate (i - 1) 1 o)) ∙ sym (append_assoc os (replicate (i - 1) o) (o ∷ [])) in
    let l = ends_with t.behind (os ++ replicate (i - 1) o) o (from ∙ split) in
    skip_passes l.1 g l.0 (drop 1 t.ahead) t l.2 (first_glyph t.ahead g at) (l.3 ∙ same)

pub output_made : (gdef : GlyphDefinition) (glyphs : List ℕ) (i r : ℕ) (g : hb_glyph_info_t) (s now new : Sides) → 0 < length s.ahead → slice_get s.ahead 0 ≡ Some g → 0 < length glyphs → list_all (λ n. nat_le n 65535) glyphs ≡ true → length glyphs ≤ i → i ≤ length glyphs
    → AreOutput gdef glyphs i g s now → new ≡ with_glyph_skipped now → IsPerformed (multiple_substitution gdef glyphs (cut_with r s)) true r r s new
output_made gdef glyphs i r g s now new there at some small all within a is =
    let n = length glyphs in
    let x = item_of g in
    let o = origin_of g in
    let last : i ≡ n = omega (arith, all, within) in
    let taken : take i glyphs ≡ glyphs = take_all i glyphs all in
    let put : Sides = record s { behind = now.behind; is_apart = now.is_apart } in
    let after : new ≡ with_glyph_passed put = is ∙ ap with_glyph_skipped a.others ∙ multiplied_passes i o g put (origins s.behind) (omega (arith, last, some)) a.origin at refl in
    let ahead : new.ahead ≡ drop 1 s.ahead = ap (λ (t : Sides). t.ahead) after in
    let behind : new.behind ≡ now.behind = ap (λ (t : Sides). t.behind) after in
    let items : strip new.behind ≡ strip s.behind ++ component_items gdef x 0 glyphs = ap strip behind ∙ a.items ∙ ap (λ gs. strip s.behind ++ component_items gdef x 0 gs) taken in
    let rest : strip new.ahead ≡ drop 1 (strip s.ahead) = ap strip ahead ∙ dropped_map item_of s.ahead in
    let first : first_of (strip s.ahead) ≡ Some x = first_item s.ahead g at in
    let c = cut_with r s in
    let front : strip now.behind ≡ strip s.behind ++ component_items gdef x 0 glyphs = a.items ∙ ap (λ gs. strip s.behind ++ component_items gdef x 0 gs) taken in
    let cut : cut_with r new ≡ cut_with_multiple gdef glyphs c =
    ap (λ (t : Sides). cut_with r t) after ∙ ap (λ (xs : List Item). record c { front = xs; rest = strip (drop 1 s.ahead) }) front
    ∙ ap (λ (xs : List Item). record c { front = strip s.behind ++ component_items gdef x 0 glyphs; rest = xs }) (dropped_map item_of s.ahead)
    ∙ ap (λ q. record c { front = strip s.behind ++ multiplied_item gdef glyphs q; rest = drop 1 (strip s.ahead) }) (sym first) in
    let os = origins s.behind in
    let from : origins (now.behind ++ drop 1 s.ahead) ≡ os ++ replicate n o ++ drop 1 (origins s.ahead) =
    map-append origin_of now.behind (drop 1 s.ahead) ∙ ap (λ q. origins now.behind ++ q) (dropped_map origin_of s.ahead)
    ∙ ap (λ q. q ++ drop 1 (origins s.ahead)) (a.origin ∙ ap (λ k. os ++ replicate k o) last) in
    let b : length os ≡ length s.behind = length-map s.behind origin_of in
    let plain : origins (now.behind ++ drop 1 s.ahead) ≡ elements_replaced (length s.behind) 1 n (origins_merged_as (manner InList s.level) (length s.behind) (length s.behind + 1) (origins_of s)) =
    from ∙ sym (ap (elements_replaced (length s.behind) 1 n) (one_merged (manner InList s.level) (length s.behind) (origins_of s) ∙ map-append origin_of s.behind s.ahead) ∙ ap (λ m. elements_replaced m 1 n (os ++ origins s.ahead)) (sym b)
    ∙ from_one n o os (origins s.ahead) (first_origin s.ahead g at)) in
    let happened : origins_of new ≡ origins_by (Replace (length c.front) 1 n ∷ []) s =
    ap origins_of (is ∙ ap with_glyph_skipped a.others) ∙ put_origins n s put (a.count ∙ ap (λ k. length s.behind + k) last) refl refl plain ∙ ap (λ m. origins_by (Replace m 1 n ∷ []) s) (sym (length-map s.behind item_of)) in
    let counts = dropped_length s.ahead there in
    let le = a.room (omega (arith, last, some)) in
    let room : nat_le (length s.behind + n) s.max_len ≡ true = grind (arith, nat_tests, le, last) in
    let left : length new.ahead ≡ length (drop 1 s.ahead) = ap length ahead in
    let out : length (strip new.behind) ≡ length new.behind = length-map new.behind item_of in
    let back : length (strip s.behind) ≡ length s.behind = length-map s.behind item_of in
    let shown : length (strip new.behind) ≡ length (strip s.behind ++ component_items gdef x 0 glyphs) = ap length items in
    let grown = length-append (strip s.behind) (component_items gdef x 0 glyphs) in
    let p : Item → Bool = λ y. nat_le y.number 65535 in
    acts_within n r r (Acts (cut_with_multiple gdef glyphs c) (Replace (length c.front) 1 n ∷ [])) true s new room (
      refl,
      record {
        cut_is = cut;
        happened = happened;
        still = ap frame_of after;
        fewer = omega (arith, left, counts);
        kept = omega (arith, out, back, shown, grown);
        numbers = λ h.
            let before = ap are_glyphs (sym (map-append item_of s.behind s.ahead)) ∙ h in
            ap are_glyphs (map-append item_of new.behind new.ahead ∙ ap (λ xs. xs ++ strip new.ahead) items ∙ ap (λ xs. strip s.behind ++ component_items gdef x 0 glyphs ++ xs) rest)
            ∙ all_of_both p (strip s.behind ++ component_items gdef x 0 glyphs) (drop 1 (strip s.ahead)) (all_of_both p (strip s.behind) (component_items gdef x 0 glyphs) (all_of_front p (strip s.behind) (strip s.ahead) before) (components_small gdef x 0 glyphs small))
            (all_dropped p 1 (strip s.ahead) (all_of_back p (strip s.behind) (strip s.ahead) before));
      },
    )

-- the glyph at the cursor went: what else there is stays
record IsGone (r : ℕ) (s new : Sides) : Type 0 where
  still : IsStill s new
  cut_is : cut_with r new ≡ record (cut_with r s) { front = strip new.behind; rest = strip new.ahead }

gone : (r : ℕ) (s new : Sides) (gs : List hb_glyph_info_t) → s.ahead ≡ gs → 0 < length gs → ((g : hb_glyph_info_t) (back : List hb_glyph_info_t) → s.ahead ≡ g ∷ back → new ≡ with_deleted g back s) → IsGone r s new
gone r s new [] at lt is = absurd (omega (arith, lt))
gone r s new (g ∷ back) at lt is =
    let P : Sides → Type 0 = λ t. IsGone r s t in
    let left : IsGone r s (with_deleted g back s) = record { still = refl; cut_is = ap (λ (t : ℕ). record (cut_with r s) { front = strip (with_deleted g back s).behind; rest = strip (with_deleted g back s).ahead; scratch_flags = t }) (stage_flags_ignore_glyph_flags (deletion_marks s.level (clusters s.behind) g.cluster (clusters back)) s.scratch_flags) } in
    subst P (sym (is g back at)) left

same_front : {X : Type 0} (xs ys zs ws : List X) → xs ++ ys ≡ zs ++ ws → length xs ≡ length zs → (xs ≡ zs) × (ys ≡ ws)
same_front xs ys zs ws e long = (
  sym (take-append_seam xs ys) ∙ ap (take (length xs)) e ∙ ap (λ n. take n (zs ++ ws)) long ∙ take-append_seam zs ws,
  sym (drop-append_seam xs ys) ∙ ap (drop (length xs)) e ∙ ap (λ n. drop n (zs ++ ws)) long ∙ drop-append_seam zs ws,
)

-- the glyph at the cursor is deleted, with no other event
abbrev deleted_alone : Action
deleted_alone c = Acts (record c { rest = drop 1 c.rest }) (Delete (length c.front) ∷ [])

pub glyph_deleted : (r : ℕ) (s new : Sides) → 0 < length s.ahead → ((g : hb_glyph_info_t) (back : List hb_glyph_info_t) → s.ahead ≡ g ∷ back → new ≡ with_deleted g back s) → new.read ≡ s.read + 1 → length new.behind ≡ length s.behind → length new.ahead + 1 ≡ length s.ahead
    → items_of new ≡ strip s.behind ++ drop 1 (strip s.ahead) → origins_of new ≡ origins_by (Delete (length s.behind) ∷ []) s → IsPerformed (deleted_alone (cut_with r s)) true r r s new
glyph_deleted r s new there is read behind left items followed =
    let f : length (strip s.behind) ≡ length s.behind = length-map s.behind item_of in
    let p : Item → Bool = λ y. nat_le y.number 65535 in
    let k = gone r s new s.ahead refl there is in
    let sides = same_front (strip new.behind) (strip new.ahead) (strip s.behind) (drop 1 (strip s.ahead)) (sym (map-append item_of new.behind new.ahead) ∙ items) (length-map new.behind item_of ∙ behind ∙ sym f) in (
      refl,
      record {
        cut_is = k.cut_is ∙ ap (λ (xs : List Item). record (cut_with r s) { front = xs; rest = strip new.ahead }) sides.0 ∙ ap (λ (xs : List Item). record (cut_with r s) { rest = xs }) sides.1;
        happened = followed ∙ ap (λ n. origins_by (Delete n ∷ []) s) (sym f);
        still = k.still;
        fewer = omega (arith, left);
        kept = omega (arith, behind);
        numbers = λ h.
            let before = ap are_glyphs (sym (map-append item_of s.behind s.ahead)) ∙ h in
            ap are_glyphs items ∙ all_of_both p (strip s.behind) (drop 1 (strip s.ahead)) (all_of_front p (strip s.behind) (strip s.ahead) before) (all_dropped p 1 (strip s.ahead) (all_of_back p (strip s.behind) (strip s.ahead) before));
      },
    )

-- where safe breaks are requested, `Break` is what `StrictBreak` is
strictly_happened : (from to : ℕ) (t : Bool) (s new : Sides) → requests_breaks s ≡ t → origins_of new ≡ (if t then origins_by (Break from to ∷ []) s else origins_of s) → HasHappened (StrictBreak from to ∷ []) s new
strictly_happened from to true s new e f = f ∙ ap (λ (b : Bool). strictly_marked b from to (origins_of s)) (sym e)
strictly_happened from to false s new e f = f ∙ ap (λ (b : Bool). strictly_marked b from to (origins_of s)) (sym e)

flagged_range : (back ahead : ℕ) (s : Sides) → back ≡ min (length s.behind) 1 → ahead ≡ min (length s.ahead) 2
    → StrictBreak (length s.behind - back) (length s.behind + ahead) ≡ neighbours_flagged (cut_of s)
flagged_range back ahead s b a =
    let front : length (strip s.behind) ≡ length s.behind = length-map s.behind item_of in
    let rest : length (strip s.ahead) ≡ length s.ahead = length-map s.ahead item_of in
    let from : length s.behind - back ≡ length (strip s.behind) - 1 = omega (arith, front, b) in
    let to : length s.behind + ahead ≡ length (strip s.behind) + min 2 (length (strip s.ahead)) = omega (arith, front, rest, a) in
    ap (λ (k : ℕ). StrictBreak k (length s.behind + ahead)) from ∙ ap (λ (k : ℕ). StrictBreak (length (strip s.behind) - 1) k) to

-- the glyph at the cursor was flagged with its neighbours
pub neighbours_passed : (back ahead : ℕ) (s new : Sides) → requests_breaks s ≡ true → back ≡ min (length s.behind) 1 → ahead ≡ min (length s.ahead) 2
    → IsPassed (Break (length s.behind - back) (length s.behind + ahead) ∷ []) s new → IsPassed (neighbours_flagged (cut_of s) ∷ []) s new
neighbours_passed back ahead s new e b a p =
    subst (λ (x : Event). IsPassed (x ∷ []) s new) (flagged_range back ahead s b a)
    (record { cut_is = p.cut_is; happened = strictly_happened (length s.behind - back) (length s.behind + ahead) true s new e p.happened; still = p.still; read = p.read })

-- it was not, where that isn't requested
pub neighbours_left : (s : Sides) → requests_breaks s ≡ false → IsPassed (neighbours_flagged (cut_of s) ∷ []) s s
neighbours_left s e =
    let c = cut_of s in
    record { cut_is = refl; happened = strictly_happened (length c.front - 1) (length c.front + min 2 (length c.rest)) false s s e refl; still = refl; read = refl }

-- then it was deleted
pub deleted_after : (r : ℕ) (s mid new : Sides) → IsPassed (neighbours_flagged (cut_of s) ∷ []) s mid → IsPerformed (deleted_alone (cut_with r mid)) true r r mid new → IsPerformed (deletion (cut_with r s)) true r r s new
deleted_after r s mid new p d =
    let es : List Event = neighbours_flagged (cut_of s) ∷ [] in
    subst (λ (c : Cut). IsPerformed (later es (deleted_alone c)) true r r s new) (same_with r s mid p.cut_is)
    (performs_later es (deleted_alone (cut_with r mid)) (Ok true) r r s mid new p d)
