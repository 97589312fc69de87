pub mod ShownFields
