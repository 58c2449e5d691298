-- Carets that C reads.
use Rattle.std.proofs.Common.{ℕ, ◌≡◌, ◌≢◌, List, length, map, inl, inr, sym, ap, subst, ◌∙◌}
use Rattle.buffer_common.specs.declared.direction.Direction.{Direction}
use Rattle.buffer_core.specs.Sides.{Sides}
use Rattle.c_lines.specs.Carets.{AreCaretsOf, IsCaretsRefusal, caret_of, carets_along}
use Rattle.c_lines.specs.Numbers.{caret_fault_number}
use Rattle.c_lines.specs.declared.types.kus_caret_t.{kus_caret_t}
use Rattle.font_carets.specs.declared.rows.LigatureCarets.{LigatureCarets}
use Rattle.c_text.specs.Fonts.{KeptFont}
use Rattle.c_text.specs.Written.{with_front}
use Rattle.c_text.specs.declared.segment.Segment.{Segment}
use Rattle.caret_model.specs.declared.carets.Caret.{Caret}
use Rattle.caret_model.specs.declared.carets.CaretFault.{CaretFault}
use Rattle.caret_model.specs.declared.carets.CaretFault.TheVariants.{OutOfMemory, InvalidStops}
use Rattle.caret_model.specs.Lines.{IsFaultTo, IsLineTo, Line}
use Rattle.caret_model.specs.Stops.{AreStops}

pub carets_found : (d : Direction) (ligatures : List LigatureCarets) (glyphs : Sides) (end : ℕ) (stops : List ℕ) (line : Line) (found : List Caret) (room now : List kus_caret_t) (count : ℕ)
    → IsLineTo d glyphs end line → AreStops line.end 0 stops → found ≡ carets_along d ligatures glyphs line stops → count ≡ length found → now ≡ with_front (map caret_of found) room
    → AreCaretsOf d ligatures glyphs end stops room now count
carets_found d ligatures glyphs end stops line found room now count is may same all written = record {
  line = line;
  is = is;
  may = subst (λ n. AreStops n 0 stops) is.end may;
  all = all ∙ ap length same;
  written = written ∙ ap (λ cs. with_front (map caret_of cs) room) same;
}

pub line_refused : (d : Direction) (glyphs : Sides) (end : ℕ) (stops : List ℕ) (e : CaretFault) (number : ℕ) → number ≡ caret_fault_number e → IsFaultTo d glyphs end e → IsCaretsRefusal d glyphs end stops number
line_refused d glyphs end stops e number same holds = inl (record { fault = e; same = same; holds = holds })

pub stops_refused : (d : Direction) (glyphs : Sides) (end : ℕ) (stops : List ℕ) (line : Line) (e : CaretFault) (number : ℕ)
    → IsLineTo d glyphs end line → number ≡ caret_fault_number e → number ≢ 1 → (e ≢ OutOfMemory → (e ≡ InvalidStops) × (¬ AreStops line.end 0 stops))
    → IsCaretsRefusal d glyphs end stops number
stops_refused d glyphs end stops line e number is same other told =
    let both = told (λ memory. other (same ∙ ap caret_fault_number memory)) in
    inr (same ∙ ap caret_fault_number both.0, λ are. both.1 (subst (λ n. AreStops n 0 stops) (sym is.end) are))

-- ---- of a font's glyphs

pub carets_of_taken : (f : KeptFont) (s : Segment) (ligatures : List LigatureCarets) (glyphs : Sides) (end : ℕ) (stops : List ℕ) (room now : List kus_caret_t) (count : ℕ)
    → s ≡ f.segment → ligatures ≡ f.ligatures → glyphs ≡ f.glyphs → AreCaretsOf s.direction ligatures glyphs end stops room now count → AreCaretsOf f.segment.direction f.ligatures f.glyphs end stops room now count
carets_of_taken f s ligatures glyphs end stops room now count along kept same are =
    let P : Sides → Type 0 = λ gs. AreCaretsOf f.segment.direction f.ligatures gs end stops room now count in
    let Q : Segment → Type 0 = λ (t : Segment). AreCaretsOf t.direction ligatures glyphs end stops room now count in
    let R : List LigatureCarets → Type 0 = λ ls. AreCaretsOf f.segment.direction ls glyphs end stops room now count in
    subst P same (subst R kept (subst Q along are))

pub taken_refuse_carets : (f : KeptFont) (s : Segment) (glyphs : Sides) (end : ℕ) (stops : List ℕ) (number : ℕ)
    → s ≡ f.segment → glyphs ≡ f.glyphs → IsCaretsRefusal s.direction glyphs end stops number → IsCaretsRefusal f.segment.direction f.glyphs end stops number
taken_refuse_carets f s glyphs end stops number along same refused =
    let P : Sides → Type 0 = λ gs. IsCaretsRefusal f.segment.direction gs end stops number in
    let Q : Segment → Type 0 = λ (t : Segment). IsCaretsRefusal t.direction glyphs end stops number in
    subst P same (subst Q along refused)
