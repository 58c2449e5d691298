-- Events one after another.
use Rattle.std.proofs.Common.{ℕ, ◌≡◌, Bool, not, List, [], ◌∷◌, ◌++◌, refl, ap, sym, ◌∙◌, append_assoc}
use Rattle.buffer_glyphs.specs.declared.level.BufferClusterLevel.{BufferClusterLevel}
use Rattle.buffer_glyphs.specs.Levels.{Manner, Unites, Marks, Keeps, InList, manner, grapheme_manner}
use Rattle.buffer_glyphs.specs.Parts.{PartEvent, JoinParts, ReplaceParts, DeletePart, CirclePart, ReverseParts, after_part_event, after_part_events}
use Rattle.buffer_glyphs.specs.Order.{IsGiving, falls_after}
use Rattle.buffer_glyphs.specs.Origins.{Span, spans}
use Rattle.buffer_glyphs.specs.Events.{Event, Reverse, Merge, MergeGrapheme, Replace, Circle, Delete, Move, Arrange, Sort, Break, Concat, Tatweel, StrictBreak, Spread, Reset}
use Rattle.buffer_glyphs.specs.EventParts.{joins_of, span_joins, parts_of_event, parts_of}
use Rattle.buffer_parts.specs.Turns.{IsUnturned}
use Rattle.buffer_parts.specs.TextLaws.{UnturnedKeepsSide, TurnsAddUp}

pub parts_in_turn : (level : BufferClusterLevel) (es fs : List Event) → parts_of level (es ++ fs) ≡ parts_of level es ++ parts_of level fs
parts_in_turn level [] fs = refl
parts_in_turn level (e ∷ es) fs = ap (λ ps. parts_of_event level e ++ ps) (parts_in_turn level es fs) ∙ sym (append_assoc (parts_of_event level e) (parts_of level es) (parts_of level fs))

pub giving_in_turn : (es fs : List PartEvent) (ns : List ℕ) → IsGiving es ns → IsGiving fs (after_part_events es ns) → IsGiving (es ++ fs) ns
giving_in_turn [] fs ns g h = h
giving_in_turn (e ∷ es) fs ns g h = (g.0, giving_in_turn es fs (after_part_event ns e) g.1 h)

pub falls_in_turn : (falls : Bool) (es fs : List PartEvent) → falls_after falls (es ++ fs) ≡ falls_after (falls_after falls es) fs
falls_in_turn falls [] fs = refl
falls_in_turn falls (JoinParts from to ∷ es) fs = falls_in_turn falls es fs
falls_in_turn falls (ReplaceParts at taken given ∷ es) fs = falls_in_turn falls es fs
falls_in_turn falls (DeletePart at ∷ es) fs = falls_in_turn falls es fs
falls_in_turn falls (CirclePart at ∷ es) fs = falls_in_turn falls es fs
falls_in_turn falls (ReverseParts ∷ es) fs = falls_in_turn (not falls) es fs

pub turns_add_up : TurnsAddUp
turns_add_up level es fs falls = ap (falls_after falls) (parts_in_turn level es fs) ∙ falls_in_turn falls (parts_of level es) (parts_of level fs)

joins_fall : (m : Manner) (from to : ℕ) (falls : Bool) → falls_after falls (joins_of m from to) ≡ falls
joins_fall Unites from to falls = refl
joins_fall Marks from to falls = refl
joins_fall Keeps from to falls = refl

spans_fall : (m : Manner) (at : ℕ) (ss : List Span) (falls : Bool) → falls_after falls (span_joins m at ss) ≡ falls
spans_fall m at [] falls = refl
spans_fall Unites at (s ∷ ss) falls = spans_fall Unites at ss falls
spans_fall Marks at (s ∷ ss) falls = spans_fall Marks at ss falls
spans_fall Keeps at (s ∷ ss) falls = spans_fall Keeps at ss falls

after_joins : (m : Manner) (from to : ℕ) (ps : List PartEvent) (falls : Bool) → falls_after falls (joins_of m from to ++ ps) ≡ falls_after falls ps
after_joins m from to ps falls = falls_in_turn falls (joins_of m from to) ps ∙ ap (λ b. falls_after b ps) (joins_fall m from to falls)

pub unturned_keeps_side : UnturnedKeepsSide
unturned_keeps_side level [] falls u = refl
unturned_keeps_side level (Reverse ∷ es) falls u = absurd u
unturned_keeps_side level (Merge how from to ∷ es) falls u = after_joins (manner how level) from to (parts_of level es) falls ∙ unturned_keeps_side level es falls u
unturned_keeps_side level (MergeGrapheme from to ∷ es) falls u = after_joins (grapheme_manner level) from to (parts_of level es) falls ∙ unturned_keeps_side level es falls u
unturned_keeps_side level (Replace at taken given ∷ es) falls u = unturned_keeps_side level es falls u
unturned_keeps_side level (Circle after at like ∷ es) falls u = unturned_keeps_side level es falls u
unturned_keeps_side level (Delete at ∷ es) falls u = unturned_keeps_side level es falls u
unturned_keeps_side level (Move how from order ∷ es) falls u = after_joins (manner how level) from _ (parts_of level es) falls ∙ unturned_keeps_side level es falls u
unturned_keeps_side level (Arrange from order ∷ es) falls u = unturned_keeps_side level es falls u
unturned_keeps_side level (Sort from order ∷ es) falls u =
    falls_in_turn falls (span_joins (manner InList level) from (spans order)) (parts_of level es) ∙ ap (λ b. falls_after b (parts_of level es)) (spans_fall (manner InList level) from (spans order) falls) ∙ unturned_keeps_side level es falls u
unturned_keeps_side level (Break from to ∷ es) falls u = unturned_keeps_side level es falls u
unturned_keeps_side level (Concat from to ∷ es) falls u = unturned_keeps_side level es falls u
unturned_keeps_side level (Tatweel from to ∷ es) falls u = unturned_keeps_side level es falls u
unturned_keeps_side level (StrictBreak from to ∷ es) falls u = unturned_keeps_side level es falls u
unturned_keeps_side level (Spread ∷ es) falls u = unturned_keeps_side level es falls u
unturned_keeps_side level (Reset ∷ es) falls u = unturned_keeps_side level es falls u

pub unturned_in_turn : (es fs : List Event) → IsUnturned es → IsUnturned fs → IsUnturned (es ++ fs)
unturned_in_turn [] fs u w = w
unturned_in_turn (Reverse ∷ es) fs u w = absurd u
unturned_in_turn (Merge how from to ∷ es) fs u w = unturned_in_turn es fs u w
unturned_in_turn (MergeGrapheme from to ∷ es) fs u w = unturned_in_turn es fs u w
unturned_in_turn (Replace at taken given ∷ es) fs u w = unturned_in_turn es fs u w
unturned_in_turn (Circle after at like ∷ es) fs u w = unturned_in_turn es fs u w
unturned_in_turn (Delete at ∷ es) fs u w = unturned_in_turn es fs u w
unturned_in_turn (Move how from order ∷ es) fs u w = unturned_in_turn es fs u w
unturned_in_turn (Arrange from order ∷ es) fs u w = unturned_in_turn es fs u w
unturned_in_turn (Sort from order ∷ es) fs u w = unturned_in_turn es fs u w
unturned_in_turn (Break from to ∷ es) fs u w = unturned_in_turn es fs u w
unturned_in_turn (Concat from to ∷ es) fs u w = unturned_in_turn es fs u w
unturned_in_turn (Tatweel from to ∷ es) fs u w = unturned_in_turn es fs u w
unturned_in_turn (StrictBreak from to ∷ es) fs u w = unturned_in_turn es fs u w
unturned_in_turn (Spread ∷ es) fs u w = unturned_in_turn es fs u w
unturned_in_turn (Reset ∷ es) fs u w = unturned_in_turn es fs u w
