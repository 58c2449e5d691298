use Rattle.buffer_unicode_tables.proofs.Faults.{then_sound, faulty, fails_with}
use Rattle.buffer_unicode_tables.proofs.tables.UnicodeTables.new.Goals as goal

-- the fault of a table comes after the tables before it, which have none
pub returns-in_err-read_rows-2-clause-refused : goal.returns-in_err-read_rows-2-clause-refused
returns-in_err-read_rows-2-clause-refused c = fails_with _ _ _ c.from_residual-in_err-read_rows-2.ensures.1 (λ n _. (then_sound _ (rw c.deref.ensures.value at c.in_ok-read_rows.ensures.sound) (faulty _ (rw c.deref-2.ensures.value at (c.in_err-read_rows-2.ensures.refused n)))))

pub returns-in_err-read_rows-3-clause-refused : goal.returns-in_err-read_rows-3-clause-refused
returns-in_err-read_rows-3-clause-refused c = fails_with _ _ _ c.from_residual-in_err-read_rows-3.ensures.1 (λ n _. (then_sound _ (rw c.deref.ensures.value at c.in_ok-read_rows.ensures.sound) (then_sound _ (rw c.deref-2.ensures.value at c.in_ok-read_rows-2.ensures.sound) (faulty _ (rw c.deref-3.ensures.value at (c.in_err-read_rows-3.ensures.refused n))))))

pub returns-in_err-read_rows-4-clause-refused : goal.returns-in_err-read_rows-4-clause-refused
returns-in_err-read_rows-4-clause-refused c = fails_with _ _ _ c.from_residual-in_err-read_rows-4.ensures.1 (λ n _. (then_sound _ (rw c.deref.ensures.value at c.in_ok-read_rows.ensures.sound) (then_sound _ (rw c.deref-2.ensures.value at c.in_ok-read_rows-2.ensures.sound) (then_sound _ (rw c.deref-3.ensures.value at c.in_ok-read_rows-3.ensures.sound) (faulty _ (rw c.deref-4.ensures.value at (c.in_err-read_rows-4.ensures.refused n)))))))

pub returns-in_err-read_rows-5-clause-refused : goal.returns-in_err-read_rows-5-clause-refused
returns-in_err-read_rows-5-clause-refused c = fails_with _ _ _ c.from_residual-in_err-read_rows-5.ensures.1 (λ n _. (then_sound _ (rw c.deref.ensures.value at c.in_ok-read_rows.ensures.sound) (then_sound _ (rw c.deref-2.ensures.value at c.in_ok-read_rows-2.ensures.sound) (then_sound _ (rw c.deref-3.ensures.value at c.in_ok-read_rows-3.ensures.sound) (then_sound _ (rw c.deref-4.ensures.value at c.in_ok-read_rows-4.ensures.sound) (faulty _ (rw c.deref-5.ensures.value at (c.in_err-read_rows-5.ensures.refused n))))))))

pub returns-in_err-read_rows-6-clause-refused : goal.returns-in_err-read_rows-6-clause-refused
returns-in_err-read_rows-6-clause-refused c = fails_with _ _ _ c.from_residual-in_err-read_rows-6.ensures.1 (λ n _. (then_sound _ (rw c.deref.ensures.value at c.in_ok-read_rows.ensures.sound) (then_sound _ (rw c.deref-2.ensures.value at c.in_ok-read_rows-2.ensures.sound) (then_sound _ (rw c.deref-3.ensures.value at c.in_ok-read_rows-3.ensures.sound) (then_sound _ (rw c.deref-4.ensures.value at c.in_ok-read_rows-4.ensures.sound) (then_sound _ (rw c.deref-5.ensures.value at c.in_ok-read_rows-5.ensures.sound) (faulty _ (rw c.deref-6.ensures.value at (c.in_err-read_rows-6.ensures.refused n)))))))))

pub returns-in_err-read_rows-7-clause-refused : goal.returns-in_err-read_rows-7-clause-refused
returns-in_err-read_rows-7-clause-refused c = fails_with _ _ _ c.from_residual-in_err-read_rows-7.ensures.1 (λ n _. (then_sound _ (rw c.deref.ensures.value at c.in_ok-read_rows.ensures.sound) (then_sound _ (rw c.deref-2.ensures.value at c.in_ok-read_rows-2.ensures.sound) (then_sound _ (rw c.deref-3.ensures.value at c.in_ok-read_rows-3.ensures.sound) (then_sound _ (rw c.deref-4.ensures.value at c.in_ok-read_rows-4.ensures.sound) (then_sound _ (rw c.deref-5.ensures.value at c.in_ok-read_rows-5.ensures.sound) (then_sound _ (rw c.deref-6.ensures.value at c.in_ok-read_rows-6.ensures.sound) (faulty _ (rw c.deref-7.ensures.value at (c.in_err-read_rows-7.ensures.refused n))))))))))

pub returns-in_err-read_rows-8-clause-refused : goal.returns-in_err-read_rows-8-clause-refused
returns-in_err-read_rows-8-clause-refused c = fails_with _ _ _ c.from_residual-in_err-read_rows-8.ensures.1 (λ n _. (then_sound _ (rw c.deref.ensures.value at c.in_ok-read_rows.ensures.sound) (then_sound _ (rw c.deref-2.ensures.value at c.in_ok-read_rows-2.ensures.sound) (then_sound _ (rw c.deref-3.ensures.value at c.in_ok-read_rows-3.ensures.sound) (then_sound _ (rw c.deref-4.ensures.value at c.in_ok-read_rows-4.ensures.sound) (then_sound _ (rw c.deref-5.ensures.value at c.in_ok-read_rows-5.ensures.sound) (then_sound _ (rw c.deref-6.ensures.value at c.in_ok-read_rows-6.ensures.sound) (then_sound _ (rw c.deref-7.ensures.value at c.in_ok-read_rows-7.ensures.sound) (faulty _ (rw c.deref-8.ensures.value at (c.in_err-read_rows-8.ensures.refused n)))))))))))

pub returns-in_err-read_rows-9-clause-refused : goal.returns-in_err-read_rows-9-clause-refused
returns-in_err-read_rows-9-clause-refused c = fails_with _ _ _ c.from_residual-in_err-read_rows-9.ensures.1 (λ n _. (then_sound _ (rw c.deref.ensures.value at c.in_ok-read_rows.ensures.sound) (then_sound _ (rw c.deref-2.ensures.value at c.in_ok-read_rows-2.ensures.sound) (then_sound _ (rw c.deref-3.ensures.value at c.in_ok-read_rows-3.ensures.sound) (then_sound _ (rw c.deref-4.ensures.value at c.in_ok-read_rows-4.ensures.sound) (then_sound _ (rw c.deref-5.ensures.value at c.in_ok-read_rows-5.ensures.sound) (then_sound _ (rw c.deref-6.ensures.value at c.in_ok-read_rows-6.ensures.sound) (then_sound _ (rw c.deref-7.ensures.value at c.in_ok-read_rows-7.ensures.sound) (then_sound _ (rw c.deref-8.ensures.value at c.in_ok-read_rows-8.ensures.sound) (faulty _ (rw c.deref-9.ensures.value at (c.in_err-read_rows-9.ensures.refused n))))))))))))

pub returns-in_err-read_rows-10-clause-refused : goal.returns-in_err-read_rows-10-clause-refused
returns-in_err-read_rows-10-clause-refused c = fails_with _ _ _ c.from_residual-in_err-read_rows-10.ensures.1 (λ n _. (then_sound _ (rw c.deref.ensures.value at c.in_ok-read_rows.ensures.sound) (then_sound _ (rw c.deref-2.ensures.value at c.in_ok-read_rows-2.ensures.sound) (then_sound _ (rw c.deref-3.ensures.value at c.in_ok-read_rows-3.ensures.sound) (then_sound _ (rw c.deref-4.ensures.value at c.in_ok-read_rows-4.ensures.sound) (then_sound _ (rw c.deref-5.ensures.value at c.in_ok-read_rows-5.ensures.sound) (then_sound _ (rw c.deref-6.ensures.value at c.in_ok-read_rows-6.ensures.sound) (then_sound _ (rw c.deref-7.ensures.value at c.in_ok-read_rows-7.ensures.sound) (then_sound _ (rw c.deref-8.ensures.value at c.in_ok-read_rows-8.ensures.sound) (then_sound _ (rw c.deref-9.ensures.value at c.in_ok-read_rows-9.ensures.sound) (rw c.deref-10.ensures.value at (c.in_err-read_rows-10.ensures.refused n))))))))))))

-- the splits of the records are those of the rows
pub returns-clause-shallow : goal.returns-clause-shallow
returns-clause-shallow c = rw (c.in_ok-read_rows.ensures.read, c.deref.ensures.value) at c.of_records.ensures.shallow
