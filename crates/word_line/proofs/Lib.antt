mod Named
mod Numbers
mod Six
