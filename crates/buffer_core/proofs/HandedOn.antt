-- Flags handed on at the cursor.
use Rattle.std.proofs.Common.{ℕ, ◌≡◌, ◌+◌, ◌==◌, Bool, List, [], ◌∷◌, ◌++◌, Some, length, take, drop, refl, arith, ap, sym, ◌∙◌}
use Rattle.std.specs.Int.RustNames.{bit_and}
use Rattle.std.proofs.lemmas.List.{drop-map, length-map, take-map}
use Rattle.std.proofs.Math.Seq.{drop-append_seam, drop-nil}
use Rattle.buffer_glyphs.specs.declared.info.hb_glyph_info_t.{hb_glyph_info_t}
use Rattle.buffer_glyphs.specs.Items.{item_of, strip}
use Rattle.buffer_glyphs.specs.Parts.{elements_replaced, last_of}
use Rattle.buffer_glyphs.specs.Glyphs.{glyphs_merged_at}
use Rattle.buffer_glyphs.proofs.Deleted.{items_deleted}
use Rattle.buffer_glyphs.specs.Deleting.{DeletionSides, glyphs_deleted, sides_handed_if}
use Rattle.buffer_glyphs.specs.Events.{Delete, Replace}
use Rattle.buffer_glyphs.specs.Origins.{Origin, InList, origins_handed_if, manner, origin_of, origins, origins_merged_as}
use Rattle.buffer_glyphs.specs.Lemmas.Handed.{handed_nowhere, last_beyond, sides_back_items, sides_front_items, sides_origins, sides_same}
use Rattle.buffer_glyphs.specs.Lemmas.Origins.{origins_of_merged_at, origins_of_replaced}
use Rattle.buffer_lists.specs.Copies.{with_copies}
use Rattle.buffer_core.specs.Grouping.{with_current_deleted, with_deleted}
use Rattle.buffer_core.specs.Merging.{with_copied, with_glyph_passed, with_glyph_skipped, with_handed_on, with_merged, with_replaced, with_sides}
use Rattle.buffer_core.specs.Sides.{Sides, all_glyphs, origins_by, origins_of, requests_breaks}
use Rattle.buffer_core.proofs.DeletedOrigins.{current_deleted_origins}
use Rattle.buffer_core.proofs.MergedOrigins.{skipped_origins}
use Rattle.buffer_core.proofs.Open.{end_of_copies}
use Rattle.buffer_core.proofs.Replaced.{all_copied_merged, length_behind}
use Rattle.buffer_lists.proofs.Lemmas.SortedEvents.{lone_merged as merged_alone}

-- what is behind the cursor and ahead of it
abbrev halves : Sides → DeletionSides
halves s = record { front = s.behind; back = s.ahead }

pub handed_origins : (gone : List hb_glyph_info_t) (s : Sides) → origins_of (with_handed_on gone s) ≡ origins_handed_if (requests_breaks s) (origins gone) (length s.behind) (origins_of s)
handed_origins gone s = sides_origins (requests_breaks s) gone (halves s)

-- the items on both sides once the glyph at the cursor is deleted
pub skipped_behind : (s : Sides) → strip (with_glyph_skipped s).behind ≡ strip s.behind
skipped_behind s = sides_front_items (requests_breaks s) (take 1 s.ahead) (halves (with_glyph_passed s))

pub skipped_ahead : (s : Sides) → strip (with_glyph_skipped s).ahead ≡ drop 1 (strip s.ahead)
skipped_ahead s = sides_back_items (requests_breaks s) (take 1 s.ahead) (halves (with_glyph_passed s)) ∙ sym (drop-map item_of 1 s.ahead)

-- a glyph behind the cursor has the cluster and the flags of the one at it: it gets no others
last_one : {X : Type 0} (xs : List X) (y : X) → last_of (xs ++ y ∷ []) ≡ Some y
last_one [] y = refl
last_one (x ∷ []) y = last_beyond x y []
last_one (x ∷ z ∷ xs) y = last_beyond x z (xs ++ y ∷ []) ∙ last_one (z ∷ xs) y

pub skip_passes : (h g : hb_glyph_info_t) (front back : List hb_glyph_info_t) (s : Sides) → s.behind ≡ front ++ h ∷ [] → s.ahead ≡ g ∷ back → origin_of h ≡ origin_of g → with_glyph_skipped s ≡ with_glyph_passed s
skip_passes h g front back s f b same =
    let t = with_glyph_passed s in
    ap (λ gs. with_sides (sides_handed_if (requests_breaks s) (take 1 gs) (halves t)) t) b
    ∙ ap (λ l. with_sides l t) (sides_same (requests_breaks s) h g (halves t) (ap last_of f ∙ last_one front h) same)

-- the origins after n glyphs were put in place of the one at the cursor
pub put_origins : (n : ℕ) (s t : Sides) → length t.behind ≡ length s.behind + n → t.ahead ≡ s.ahead → t.flags ≡ s.flags
    → origins (t.behind ++ drop 1 s.ahead) ≡ elements_replaced (length s.behind) 1 n (origins_merged_as (manner InList s.level) (length s.behind) (length s.behind + 1) (origins_of s))
    → origins_of (with_glyph_skipped t) ≡ origins_by (Replace (length s.behind) 1 n ∷ []) s
put_origins n s t long ahead flags plain =
    let b = length s.behind in
    let os = origins_of s in
    let mid = origins_merged_as (manner InList s.level) b (b + 1) os in
    let taken : origins (take 1 s.ahead) ≡ take 1 (drop b os) = sym (take-map origin_of 1 s.ahead) ∙ ap (take 1) (sym (drop-map origin_of b (all_glyphs s) ∙ ap origins (drop-append_seam s.behind s.ahead))) in
    let merged : take 1 (drop b os) ≡ take 1 (drop b mid) = ap (λ qs. take 1 (drop b qs)) (sym (merged_alone (manner InList s.level) b os)) in
    handed_origins (take 1 t.ahead) (with_glyph_passed t)
    ∙ ap (λ f. origins_handed_if (bit_and f.0 256 == 256) (origins (take 1 t.ahead)) (length t.behind) (origins (t.behind ++ drop 1 t.ahead))) flags
    ∙ ap (λ hs. origins_handed_if (requests_breaks s) (origins (take 1 hs)) (length t.behind) (origins (t.behind ++ drop 1 hs))) ahead
    ∙ ap (λ qs. origins_handed_if (requests_breaks s) qs (length t.behind) (origins (t.behind ++ drop 1 s.ahead))) (taken ∙ merged)
    ∙ ap (λ k. origins_handed_if (requests_breaks s) (take 1 (drop b mid)) k (origins (t.behind ++ drop 1 s.ahead))) long
    ∙ ap (origins_handed_if (requests_breaks s) (take 1 (drop b mid)) (b + n)) plain

-- `skip_glyph`
pub skip_origins : (s : Sides) → origins_of (with_glyph_skipped s) ≡ origins_by (Replace (length s.behind) 1 0 ∷ []) s
skip_origins s =
    let b = length s.behind in
    let os = origins_of s in
    let breaks = requests_breaks s in
    let taken : origins (take 1 s.ahead) ≡ take 1 (drop b os) = sym (take-map origin_of 1 s.ahead) ∙ ap (take 1) (sym (drop-map origin_of b (all_glyphs s) ∙ ap origins (drop-append_seam s.behind s.ahead))) in
    let seam : b ≡ b + 0 = omega arith in
    handed_origins (take 1 s.ahead) (with_glyph_passed s) ∙ ap (λ qs. origins_handed_if breaks qs b (origins_of (with_glyph_passed s))) taken
    ∙ ap (origins_handed_if breaks (take 1 (drop b os)) b) (skipped_origins s) ∙ ap (λ n. origins_handed_if breaks (take 1 (drop b os)) n (elements_replaced b 1 0 os)) seam
    ∙ ap (λ qs. origins_handed_if breaks (take 1 (drop b qs)) (b + 0) (elements_replaced b 1 0 qs)) (sym (merged_alone (manner InList s.level) b os))

-- `delete_glyph`
pub deleted_origins : (g : hb_glyph_info_t) (back : List hb_glyph_info_t) (s : Sides) → s.ahead ≡ g ∷ back → origins_of (with_deleted g back s) ≡ origins_by (Delete (length s.behind) ∷ []) s
deleted_origins g back s at =
    let b = length s.behind in
    let os = origins_of s in
    let mid = with_current_deleted g back s in
    let breaks = requests_breaks s in
    let taken : origins (g ∷ []) ≡ take 1 (drop b os) = sym (ap (take 1) (drop-map origin_of b (all_glyphs s) ∙ ap origins (drop-append_seam s.behind s.ahead ∙ at))) in
    let left = (glyphs_deleted s.level s.behind g back).front in
    let seam : length left ≡ b = sym (length-map left item_of) ∙ ap length (items_deleted s.level s.behind g back).0 ∙ length-map s.behind item_of in
    handed_origins (g ∷ []) mid ∙ ap (λ n. origins_handed_if breaks (origins (g ∷ [])) n (origins_of mid)) seam ∙ ap (λ qs. origins_handed_if breaks qs b (origins_of mid)) taken
    ∙ ap (origins_handed_if breaks (take 1 (drop b os)) b) (current_deleted_origins g back s at)

-- `replace_glyphs`
pub replaced_behind : (taken : ℕ) (numbers : List ℕ) (s : Sides) → strip (with_replaced taken numbers s).behind ≡ strip (with_copied taken numbers (with_merged (length s.behind) (length s.behind + taken) s)).behind
replaced_behind taken numbers s =
    let mid = with_merged (length s.behind) (length s.behind + taken) s in
    sides_front_items (requests_breaks s) (take taken mid.ahead) (halves (with_copied taken numbers mid))

pub replaced_ahead : (taken : ℕ) (numbers : List ℕ) (s : Sides) → strip (with_replaced taken numbers s).ahead ≡ strip (with_copied taken numbers (with_merged (length s.behind) (length s.behind + taken) s)).ahead
replaced_ahead taken numbers s =
    let mid = with_merged (length s.behind) (length s.behind + taken) s in
    sides_back_items (requests_breaks s) (take taken mid.ahead) (halves (with_copied taken numbers mid))

copied_seam : (asked : Bool) (gone : List Origin) (b taken : ℕ) (given : List ℕ) (hs gs : List hb_glyph_info_t) (os : List Origin) → length hs ≡ b → os ≡ origins (with_copies given gs hs ++ drop taken gs)
    → origins_handed_if asked gone (length (with_copies given gs hs)) os ≡ origins_handed_if asked gone (b + length given) os
copied_seam asked gone b taken given [] [] os l e =
    let none : os ≡ [] = e ∙ ap origins (drop-nil {A = hb_glyph_info_t} taken) in
    rw none (handed_nowhere asked gone 0 (b + length given))
copied_seam asked gone b taken given [] (g ∷ gs) os l e = ap (λ n. origins_handed_if asked gone n os) (end_of_copies (g ∷ gs) [] given (λ none. cc) ∙ ap (λ k. k + length given) l)
copied_seam asked gone b taken given (h ∷ hs) gs os l e = ap (λ n. origins_handed_if asked gone n os) (end_of_copies gs (h ∷ hs) given (λ none. cc) ∙ ap (λ k. k + length given) l)

pub replaced_origins : (taken : ℕ) (given : List ℕ) (s : Sides) → origins_of (with_replaced taken given s) ≡ origins_by (Replace (length s.behind) taken (length given) ∷ []) s
replaced_origins taken given s =
    let b = length s.behind in
    let gs = glyphs_merged_at s.level b (b + taken) (all_glyphs s) in
    let mid = with_merged b (b + taken) s in
    let put = with_copied taken given mid in
    let breaks = requests_breaks s in
    let os = origins_merged_as (manner InList s.level) b (b + taken) (origins_of s) in
    let merged : origins gs ≡ os = origins_of_merged_at s.level b (b + taken) (all_glyphs s) (omega arith) in
    let gone : origins (take taken mid.ahead) ≡ take taken (drop b os) = sym (take-map origin_of taken (drop b gs)) ∙ ap (take taken) (sym (drop-map origin_of b gs) ∙ ap (drop b) merged) in
    let all : origins_of put ≡ elements_replaced b taken (length given) os =
    ap origins (all_copied_merged taken given s) ∙ origins_of_replaced b taken given gs ∙ ap (elements_replaced b taken (length given)) merged in
    handed_origins (take taken mid.ahead) put ∙ ap (λ qs. origins_handed_if breaks qs (length put.behind) (origins_of put)) gone
    ∙ copied_seam breaks (take taken (drop b os)) b taken given mid.behind mid.ahead (origins_of put) (length_behind taken s) refl
    ∙ ap (origins_handed_if breaks (take taken (drop b os)) (b + length given)) all
