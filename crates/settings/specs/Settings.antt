-- Document 01, "Settings cookie": 64 bytes, all little-endian. Assumes nothing.
use Rattle.std.specs.Prelude.{not, cond, List, ◌++◌, ℕ, ltb, eqb, length, take, replicate, Result, Ok, Err, ⊤}
use Rattle.refusal.specs.Refusals.{refusal, wrong_shape, check_differs, unknown_version, fanout_differs}
use Rattle.little_endian.specs.LittleEndian.{bytes_of, get_at}
use Rattle.seal.specs.Seal.{signed, is_signed}
use Rattle.settings.specs.declared.PersistentSettings.{PersistentSettings}
use Rattle.settings.specs.declared.PersistentSettings.TheVariants as P
use Rattle.refusal.specs.declared.Refusal.{Refusal}

abbrev pub cookie_length : ℕ
cookie_length = 64

-- ---- writing
-- version 1 in two bytes, the leaf fanout in eight, zeros to 60, and the check
unfoldable pub cookie_of : ℕ → List ℕ
cookie_of fanout = signed (bytes_of 2 1 ++ (bytes_of 8 fanout ++ replicate 50 0))

pub record Storing : Type 0 where
  pub answer : Result ⊤ Refusal
  pub cookie : List ℕ

unfoldable pub storing : ℕ → List ℕ → Storing
storing fanout cookie =
    cond (eqb (length cookie) cookie_length) (record { answer = Ok tt; cookie = cookie_of fanout })
    (record { answer = Err (refusal wrong_shape 0); cookie = cookie })

-- ---- reading: bytes after 64 are ignored, and the padding is not looked at
unfoldable pub settings_of : List ℕ → Result PersistentSettings Refusal
settings_of cookie =
    cond (ltb (length cookie) cookie_length) (Err (refusal wrong_shape 0))
    (cond (not (is_signed (take cookie_length cookie))) (Err (refusal check_differs 0))
    (cond (not (eqb (get_at 0 2 cookie) 1)) (Err (refusal unknown_version 0))
    (Ok (P.V1 (get_at 2 10 cookie)))))

-- whether the settings found are those expected
unfoldable pub agreement : ℕ → Result PersistentSettings Refusal → Result ⊤ Refusal
agreement fanout (Ok (P.V1 found)) = cond (eqb found fanout) (Ok tt) (Err (refusal fanout_differs 0))
agreement fanout (Err r) = Err r
