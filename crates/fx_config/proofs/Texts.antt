-- When a text is a document.
use Rattle.std.proofs.Common.{◌≡◌, ℕ, List, Some, None, Ok, Err, refl, inl, inr}
use Rattle.std.proofs.lemmas.Bool.{cases_Bool}
use Rattle.std.proofs.lemmas.Str.{IsUtf8-from_is_utf8, is_utf8-from_IsUtf8}
use Rattle.std.specs.Str.{IsUtf8, is_utf8}
use Rattle.toml.specs.Data.{Members}
use Rattle.toml.specs.Parse.{parse_document}
use Rattle.fx_config.specs.declared.configuration.ConfigError.TheVariants.{NotToml}
use Rattle.fx_config.specs.Reading.{document_of}

pub document_of-read : (text : List ℕ) (table : Members) → IsUtf8 text → parse_document text ≡ Some table → document_of text ≡ Ok table
unfolding document_of
document_of-read text table utf8 parsed = rw (is_utf8-from_IsUtf8 text utf8, parsed) refl

pub document_of-refused : (text : List ℕ) → (IsUtf8 text → parse_document text ≡ None) → document_of text ≡ Err NotToml
unfolding document_of
document_of-refused text refused =
    elim (cases_Bool (is_utf8 text)) [
      | inl utf8 ↦ rw (utf8, refused (IsUtf8-from_is_utf8 text utf8)) refl
      | inr other ↦ rw other refl
    ]
