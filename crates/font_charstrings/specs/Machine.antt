-- Charstrings, step by step (TN 5177, 4; OpenType, CFF2 chapter).
use Rattle.std.specs.Prelude.{ℕ, zero, suc, ◌+◌, ◌-◌, ◌==◌, ◌||◌, nat_le, Bool, true, if◌then◌else◌, List, [], ◌∷◌, ◌++◌, length, take, slice_index_or, Result, Ok, Err}
use Rattle.font_bytes.specs.declared.fault.TableFault.{TableFault}
use Rattle.font_bytes.specs.declared.fault.TableFault.TheVariants.{TooLarge}
use Rattle.font_bytes.specs.Results.{and_then}
use Rattle.font_bytes.specs.Words.{need, byte}
use Rattle.font_charstrings.specs.declared.operators.Run.{Run}
use Rattle.font_charstrings.specs.declared.index.Index.{Index}
use Rattle.font_charstrings.specs.declared.index.Span.{Span}
use Rattle.font_charstrings.specs.declared.machine.Context.{Context}
use Rattle.font_charstrings.specs.Numbers.{is_number, subr_index}
use Rattle.font_charstrings.specs.Index.{object}
use Rattle.font_charstrings.specs.Operators.{top_operand, number_pushed, path_drawn, stems_hinted, mask_passed, after_blend, regions_chosen, after_escape}

-- a charstring that is run, its operands, the topmost one last, and where its callers continue, the innermost one last
pub record State : Type 0 where
  pub run : Run
  pub stack : List ℕ
  pub calls : List Span

-- a charstring that is run, by its parts
abbrev pub state : Run → List ℕ → List Span → State
state r stack calls = record { run = r; stack = stack; calls = calls }

-- after an operator that calls nothing
abbrev pub with_calls : List Span → Result (Run × List ℕ) TableFault → Result State TableFault
with_calls calls x = and_then x (λ r. Ok (state r.0 r.1 calls))

-- a charstring at its end
unfoldable pub run_at_end : Run → Run
run_at_end r = record { pen = r.pen; at = r.at; end = r.end; stems = r.stems; regions = r.regions; is_done = true }

-- a charstring that continues with other bytes
unfoldable pub run_at_span : Run → Span → Run
run_at_span r span = record { pen = r.pen; at = span.at; end = span.end; stems = r.stems; regions = r.regions; is_done = r.is_done }

-- return, and the end of the bytes: back to the caller, or the end where there is none
unfoldable pub after_return : State → State
after_return s = if length s.calls == 0 then state (run_at_end s.run) [] s.calls
    else state (run_at_span s.run (slice_index_or s.calls (length s.calls - 1) (record { at = 0; end = 0 }))) s.stack (take (length s.calls - 1) s.calls)

-- a subroutine begins; calls are at most 10 deep
unfoldable pub subroutine_start : Run → Span → List Span → Result (Run × List Span) TableFault
subroutine_start r span calls = if nat_le 10 (length calls) then Err TooLarge
    else Ok (run_at_span r span, calls ++ record { at = r.at + 1; end = r.end } ∷ [])

-- callsubr, callgsubr
unfoldable pub after_call : List ℕ → Index → State → Result State TableFault
after_call table index s = and_then (top_operand s.run.at s.stack) (λ n. and_then (object table index (subr_index n.0 index.count)) (λ span.
    and_then (subroutine_start s.run span s.calls) (λ r. Ok (state r.0 n.1 r.1))))

-- hstem, vstem, hstemhm, vstemhm
abbrev pub is_stem : ℕ → Bool
is_stem code = code == 1 || code == 3 || code == 18 || code == 23

-- an operator: callsubr, callgsubr, return, endchar, those of two bytes, stem hints, masks, vsindex, blend, paths
unfoldable pub after_operator : List ℕ → Context → ℕ → State → Result State TableFault
after_operator table context code s =
    if code == 10 then after_call table context.local s
    else (if code == 29 then after_call table context.global s
    else (if code == 11 then Ok (after_return s)
    else (if code == 14 then Ok (state (run_at_end s.run) s.stack s.calls)
    else (if code == 12 then with_calls s.calls (after_escape table s.run s.stack)
    else (if is_stem code then with_calls s.calls (stems_hinted s.run s.stack)
    else (if code == 19 || code == 20 then with_calls s.calls (mask_passed table s.run s.stack)
    else (if code == 15 then with_calls s.calls (regions_chosen table context.store s.run s.stack)
    else (if code == 16 then with_calls s.calls (after_blend s.run s.stack)
    else with_calls s.calls (path_drawn s.run code s.stack)))))))))

-- one step: a number, an operator, or the way back where the bytes end
unfoldable pub step : List ℕ → Context → State → Result State TableFault
step table context s = if nat_le s.run.end s.run.at then Ok (after_return s)
    else and_then (need table s.run.at 1) (λ _.
    if is_number (byte table s.run.at) then with_calls s.calls (number_pushed table s.run (byte table s.run.at) s.stack)
    else after_operator table context (byte table s.run.at) s)

-- all steps to the end, in the room for n of them, and the room that they leave
unfoldable pub runs : List ℕ → Context → ℕ → State → Result (State × ℕ) TableFault
runs table context zero s = if s.run.is_done then Ok (s, 0) else Err TooLarge
runs table context (suc room) s = if s.run.is_done then Ok (s, suc room) else and_then (step table context s) (runs table context room)
