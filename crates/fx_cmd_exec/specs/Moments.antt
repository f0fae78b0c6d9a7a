-- The moment at which an image is written.
use Rattle.fx_cmd_base.specs.Streams.{Streams}

-- Once the image is written, no file is changed any more: what is held then is what is held at the
-- end. Input and output weren't touched before.
abbrev pub once_written : Streams → Streams → Streams
once_written before after = record before { held = after.held }
