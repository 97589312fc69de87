-- The fields of the join messages, from LoRaWAN 1.0 sections 6.2.4 and 6.2.5 (docs/RULES.md, Reading).
-- Assumes nothing.
use Rattle.std.specs.Prelude.{List, ℕ, Option, Some, None, Result, Ok, Err, ◌+◌, ◌*◌, eqb, length}
use Rattle.base.specs.Bytes.{pick, tab, at, part, zeros}
use Rattle.frame.specs.Layout.{app_eui_of, dev_eui_of, dev_nonce_of, request_mic_at, app_nonce_of, net_id_of, accept_addr, dl_settings_of, rx_delay_of, cf_list_at, cf_list_type}
use Rattle.frame.specs.declared.refusals.Refusal.{Refusal}
use Rattle.frame.specs.Reading.{read_of}
use Rattle.frame.specs.ReadingNumbers.{on_request, on_accept}
use Rattle.frame.specs.declared.join_fields.CfList.{CfList}
use Rattle.frame.specs.declared.join_fields.CfList.TheVariants.{Frequencies, Masks}
use Rattle.frame.specs.declared.join_fields.JoinAcceptFields.{JoinAcceptFields}
use Rattle.frame.specs.declared.join_fields.JoinRequestFields.{JoinRequestFields}

-- ---- 6.2.4 join-request

unfoldable pub request_fields_of : List ℕ → JoinRequestFields
request_fields_of f =
    record {
      app_eui = app_eui_of f;
      dev_eui = dev_eui_of f;
      dev_nonce = dev_nonce_of f;
      mic = part request_mic_at 4 f;
    }

abbrev pub join_request_fields_of : List ℕ → Result JoinRequestFields Refusal
join_request_fields_of f = on_request (Ok (request_fields_of f)) Err (read_of f)

-- ---- 6.2.5 join-accept, clear

-- a channel's frequency, in units of 100 Hz: three bytes, low byte first
abbrev pub frequency_at_of : List ℕ → ℕ → ℕ
frequency_at_of f a = at f a + at f (a + 1) * 256 + at f (a + 2) * 65536

-- the list that it holds, by its length and the list's type: five frequencies, or nine mask bytes
unfoldable pub cf_list_of : List ℕ → Option CfList
cf_list_of f =
    pick (eqb (length f) 33)
    (pick (eqb (cf_list_type f) 0) (Some (Frequencies (tab 5 (λ i. frequency_at_of f (cf_list_at + 3 * i)))))
    (pick (eqb (cf_list_type f) 1) (Some (Masks (part cf_list_at 9 f))) None))
    None

-- its number: 0 none, 1 frequencies, 2 masks
abbrev pub list_number_of : Option CfList → ℕ
list_number_of None = 0
list_number_of (Some (Frequencies q)) = 1
list_number_of (Some (Masks m)) = 2

-- the frequencies of a list, and its masks: zeros where it has none
abbrev pub frequencies_of : Option CfList → List ℕ
frequencies_of None = zeros 5
frequencies_of (Some (Frequencies q)) = q
frequencies_of (Some (Masks m)) = zeros 5

abbrev pub masks_of : Option CfList → List ℕ
masks_of None = zeros 9
masks_of (Some (Frequencies q)) = zeros 9
masks_of (Some (Masks m)) = m

unfoldable pub accept_fields_of : List ℕ → JoinAcceptFields
accept_fields_of f =
    record {
      app_nonce = app_nonce_of f;
      net_id = net_id_of f;
      dev_addr = accept_addr f;
      dl_settings = dl_settings_of f;
      rx_delay = rx_delay_of f;
      cf_list = cf_list_of f;
    }

abbrev pub join_accept_fields_of : List ℕ → Result JoinAcceptFields Refusal
join_accept_fields_of f = on_accept (λ n. Ok (accept_fields_of f)) Err (read_of f)
