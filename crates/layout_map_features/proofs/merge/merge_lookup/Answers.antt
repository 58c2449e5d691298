use Rattle.std.proofs.Common.{◌<◌, refl, arith}
use Rattle.layout_map_features.specs.declared.lookup.lookup_map_t.{lookup_map_t}
use Rattle.layout_map_features.specs.Lookups.{joined_lookups, lookup_with}
use Rattle.layout_map_features.proofs.Inserting.{written_over, inserted_within, inserted_last, entered_below}
use Rattle.layout_map_features.proofs.merge.merge_lookup.Goals as goal
use Rattle.layout_map_features.proofs.merge.merge_lookup.Goals.{else-at-len-via-then-at-len+else-index-lookup, else-at-len-via-else-at-len}

pub returns-then-index-lookup : goal.returns-then-index-lookup
returns-then-index-lookup c =
    let below : c.args.lookup.now.index < c.args.count = omega (arith, c.from.ensures, c.if-from-count.false) in
    let start = rw c.deref.ensures.value at c.lookup_index-at.ensures in
    entered_below c.args.count _ _ c.args.lookup.now below (written_over (λ (l : lookup_map_t). l.index) (λ (m : lookup_map_t). m.index) joined_lookups lookup_with c.args.lookup.now (λ m. refl) c.args.merged.now.items c.lookup_index-at.result
    c.index-then-index-lookup.result.now c.index.result.now c.with.result start (omega arith) c.index.ensures c.if-index-lookup.true c.index-then-index-lookup.ensures c.with.ensures)

pub returns : goal.returns
returns c =
    let below : c.args.lookup.now.index < c.args.count = omega (arith, c.from.ensures, c.if-from-count.false) in
    let start = rw c.deref.ensures.value at c.lookup_index-at.ensures in
    entered_below c.args.count _ _ c.args.lookup.now below (elim c.else-at-len.branch [
      | else-at-len-via-then-at-len+else-index-lookup w ↦
          inserted_within (λ (l : lookup_map_t). l.index) (λ (m : lookup_map_t). m.index) joined_lookups lookup_with c.args.lookup.now refl c.args.merged.now.items c.insert.new.self.items
          c.lookup_index-at.result w.index.result.now c.args.lookup.now c.requires start (omega arith) w.index.ensures w.if-index-lookup.false refl c.in_ok-insert.ensures.items
      | else-at-len-via-else-at-len w ↦
          inserted_last (λ (l : lookup_map_t). l.index) (λ (m : lookup_map_t). m.index) joined_lookups lookup_with c.args.lookup.now refl c.args.merged.now.items c.insert.new.self.items
          c.lookup_index-at.result c.args.lookup.now c.requires start (omega arith) refl c.in_ok-insert.ensures.items
    ])
