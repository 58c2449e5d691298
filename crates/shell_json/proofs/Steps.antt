-- Values that are read in turn: `front` is what was read of them, and from the `i`th on they are left.
use Rattle.std.proofs.Common.{ℕ, ◌≡◌, ◌<◌, ◌≤◌, ◌+◌, Bool, List, [], ◌∷◌, ◌++◌, Option, Some, None, Result, Ok, Err, length, get_or, drop, refl, sym, ap, ◌∙◌}
use Rattle.std.proofs.lemmas.List.{append_assoc, append-nil, at_drop_more, drop_all}
use Rattle.serde_json.specs.Data.{Data, item}
use Rattle.serde_json.specs.View.{view, items_view}
use Rattle.serde_json.specs.declared.value.Value.{Value}
use Rattle.shell_json.specs.declared.fault.JsonFault.{JsonFault}
use Rattle.shell_json.specs.Cell.{and_then}
use Rattle.shell_json.specs.Rows.{after, row_after, rows_after}

-- a value that is left is before those after it
pub item_left : (vs : List Value) (i : ℕ) (v : Value) → i < length vs → v ≡ get_or vs i v → items_view (drop i vs) ≡ item (view v) (items_view (drop (i + 1) vs))
item_left vs i v h e = at_drop_more items_view vs i v h ∙ ap (λ x. item (view x) (items_view (drop (i + 1) vs))) (sym e)

after_both : {R : Type 0} (front : List R) (r : R) (rest : Result (List R) JsonFault) → after front (after (r ∷ []) rest) ≡ after (front ++ r ∷ []) rest
after_both front r (Ok rows) = ap Ok (sym (append_assoc front (r ∷ []) rows))
after_both front r (Err e) = refl

module _ {R K : Type 0} (follows : Option K → K → Bool) (key : R → K) (read : Data → Result R JsonFault) (vs : List Value) where
  -- what the next value gives comes first of what is left
  next_first : (before : Option K) (i : ℕ) (v : Value) (front : List R) (o : Result R JsonFault)
      → rows_after follows key read None (items_view vs) ≡ after front (rows_after follows key read before (items_view (drop i vs)))
      → i < length vs → v ≡ get_or vs i v → row_after follows key read before (view v) ≡ o
      → rows_after follows key read None (items_view vs)
      ≡ after front (and_then o (λ x. after (x ∷ []) (rows_after follows key read (Some (key x)) (items_view (drop (i + 1) vs)))))
  next_first before i v front o e h is was =
      e ∙ (ap (λ l. after front (rows_after follows key read before l)) (item_left vs i v h is)
      ∙ ap (λ o. after front (and_then o (λ x. after (x ∷ []) (rows_after follows key read (Some (key x)) (items_view (drop (i + 1) vs)))))) was)

  pub one_more : (before : Option K) (i : ℕ) (v : Value) (front : List R) (r : R)
      → rows_after follows key read None (items_view vs) ≡ after front (rows_after follows key read before (items_view (drop i vs)))
      → i < length vs → v ≡ get_or vs i v → row_after follows key read before (view v) ≡ Ok r
      → rows_after follows key read None (items_view vs) ≡ after (front ++ r ∷ []) (rows_after follows key read (Some (key r)) (items_view (drop (i + 1) vs)))
  one_more before i v front r e h is was =
      next_first before i v front (Ok r) e h is was ∙ after_both front r (rows_after follows key read (Some (key r)) (items_view (drop (i + 1) vs)))

  pub refused_here : (before : Option K) (i : ℕ) (v : Value) (front : List R) (f : JsonFault)
      → rows_after follows key read None (items_view vs) ≡ after front (rows_after follows key read before (items_view (drop i vs)))
      → i < length vs → v ≡ get_or vs i v → row_after follows key read before (view v) ≡ Err f
      → rows_after follows key read None (items_view vs) ≡ Err f
  refused_here before i v front f e h is was = next_first before i v front (Err f) e h is was

  pub all_read : (before : Option K) (i : ℕ) (front : List R)
      → rows_after follows key read None (items_view vs) ≡ after front (rows_after follows key read before (items_view (drop i vs)))
      → length vs ≤ i → rows_after follows key read None (items_view vs) ≡ Ok front
  all_read before i front e h = e ∙ (ap (λ l. after front (rows_after follows key read before (items_view l))) (drop_all i vs h) ∙ ap Ok (append-nil front))
