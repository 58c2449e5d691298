pub use Rattle.script_categories.specs as script_categories
pub use Rattle.shell_face_json.specs as shell_face_json
pub use Rattle.shell_json.specs as shell_json
pub use Rattle.shell_readers.specs as shell_readers
pub use Rattle.shell_tables_json.specs as shell_tables_json
pub use Rattle.shell_words.specs as shell_words
pub mod Asked
pub mod Plans
pub mod Output
pub mod Slices
pub mod Lines
pub mod Answer
pub mod Run
pub mod Program
pub mod Laws
